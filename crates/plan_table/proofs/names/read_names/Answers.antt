use Rattle.std.proofs.Common.{◌≡◌, ◌++◌, ◌∷◌, [], arith, get_or, rules, sym}
use Rattle.std.specs.String.{string_bytes}
use Rattle.std.proofs.lemmas.List.{take_more}
use Rattle.csv.specs.Records.{fields_of}
use Rattle.csv.proofs.RecordFacts.{field-there}
use Rattle.plan_table.proofs.NameLists.{AreDifferent-none, names_more}
use Rattle.plan_table.proofs.names.read_names.Goals as goal

pub loop-column-init : goal.loop-column-init
loop-column-init c =
    let fields = fields_of c.args.head.now in
    rw (c.new-names.ensures.items) (record {
      different = AreDifferent-none;
      read = (get_or fields 0 [], take_more fields 0 [] (omega (arith, c.len.ensures)));
    })

pub unreachable-requires : goal.unreachable-requires
unreachable-requires c =
    field-there (fields_of c.args.head.now) c.loop-column.column (omega (arith, c.len-column-end.ensures)) (sym (rw c.in_default.is at c.get.ensures.value))

pub loop-column-preserved : goal.loop-column-preserved
loop-column-preserved c =
    let pushed : c.push.new.self.items ≡ c.loop-column.names.items ++ c.in_ok-name.name ∷ [] = search rules in
    let new = rw c.deref.ensures.value at c.in_ok-name.ensures.1 in
    let next = sym (rw c.in-Some.is at c.get.ensures.value) in
    let more = names_more string_bytes _ _ c.in_ok-name.name c.in-Some.name.now (fields_of c.args.head.now) c.loop-column.column pushed c.in_ok-name.ensures.0 c.loop-column.invariant.different new next c.loop-column.invariant.read in
    record { different = more.0; read = more.1 }
