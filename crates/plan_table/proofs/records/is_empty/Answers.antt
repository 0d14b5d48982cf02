use Rattle.std.proofs.Common.{sym, refl}
use Rattle.csv.specs.Records.{fields_of}
use Rattle.csv.proofs.RecordFacts.{field-get}
use Rattle.plan_table.proofs.Fields.{is_empty-of, no_word}
use Rattle.plan_table.proofs.records.is_empty.Goals as goal

pub returns-in-Some : goal.returns-in-Some
returns-in-Some c =
    let there = sym (rw c.in-Some.is at c.get.ensures.value) in
    let word = field-get (fields_of c.args.row.now) c.args.field c.in-Some.word.now there in
    rw word (is_empty-of c.in-Some.word.now c.is_empty.result c.is_empty.ensures)

pub returns-in-None : goal.returns-in-None
returns-in-None c =
    let none = no_word (fields_of c.args.row.now) c.args.field (sym (rw c.in-None.is at c.get.ensures.value)) in
    ((λ _. none), (λ _. refl))
