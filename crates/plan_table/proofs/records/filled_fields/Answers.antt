use Rattle.std.proofs.Common.{◌<◌, length, arith}
use Rattle.csv.specs.Records.{fields_of}
use Rattle.plan_table.proofs.TidyRecords.{filled_off, filled_on}
use Rattle.plan_table.proofs.records.filled_fields.Goals as goal
use Rattle.plan_table.proofs.records.filled_fields.Goals.{then-not-is_empty, else-not-is_empty}

pub loop-i-preserved : goal.loop-i-preserved
loop-i-preserved c =
    let fields = fields_of c.args.row.now in
    let there : c.loop-i.i < length fields = omega (arith, c.loop-i-test.true, c.len-i-end.ensures) in
    elim c.if-not-is_empty.branch [
      | then-not-is_empty w ↦
          rw w.filled-is (record {
            so_far = filled_on fields c.loop-i.i there (λ e. let yes = c.is_empty.ensures.1 e in let no = w.if-not-is_empty.true in cc);
            inside = omega arith;
          })
      | else-not-is_empty w ↦
          rw w.filled-is (record {
            so_far = filled_off fields c.loop-i.i c.loop-i.filled there (c.is_empty.ensures.0 w.if-not-is_empty.false) c.loop-i.invariant.so_far;
            inside = omega (arith, c.loop-i.invariant.inside);
          })
    ]
