use Rattle.std.proofs.Common.{◌≡◌, arith, inl, inr, subst}
use Rattle.std.proofs.lemmas.Bool.{cases_lt}
use Rattle.csv.specs.Records.{fields_of}
use Rattle.plan_table.specs.Marking.{IsWritten}
use Rattle.plan_table.specs.Table.{word_at}
use Rattle.plan_table.proofs.marking.is_row_written.Goals as goal

pub loop-k-preserved : goal.loop-k-preserved
loop-k-preserved c j low below =
    elim (cases_lt j c.loop-k.k) [
      | inl before ↦ c.loop-k.invariant j low before
      | inr past ↦
          let here : c.loop-k.k ≡ j = omega (arith, below, past) in
          let word = rw c.word_in.ensures at (c.in_ok-written.ensures.0 c.if-not-written.false) in
          subst (λ m. IsWritten c.args.mark (word_at (fields_of c.args.row.now) m)) here word
    ]
