use Rattle.std.proofs.Common.{sym}
use Rattle.csv.specs.Records.{fields_of}
use Rattle.csv.proofs.RecordFacts.{field-get}
use Rattle.plan_table.proofs.Fields.{no_word}
use Rattle.plan_table.proofs.rows.word_in.Goals as goal

pub returns-in-Some : goal.returns-in-Some
returns-in-Some c =
    sym (field-get (fields_of c.args.row.now) c.args.field c.in-Some.word.now (sym (rw c.in-Some.is at c.get.ensures.value)))

pub returns-in-None : goal.returns-in-None
returns-in-None c = sym (no_word (fields_of c.args.row.now) c.args.field (sym (rw c.in-None.is at c.get.ensures.value)))
