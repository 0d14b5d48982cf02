use Rattle.qap_lines.proofs.NumberLists.{one_named}
use Rattle.qap_lines.proofs.number.one_number.Goals as goal

pub returns-in-Some : goal.returns-in-Some
returns-in-Some c =
    one_named c.args.name.now c.args.line.now c.in-Some.text.now c.only_number.result c.in-Some.ensures c.only_number.ensures
