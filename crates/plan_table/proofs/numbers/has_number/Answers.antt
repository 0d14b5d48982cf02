use Rattle.std.specs.HashMap.{get_by_text}
use Rattle.plan_table.proofs.NumberLists.{is_numbered}
use Rattle.plan_table.proofs.numbers.has_number.Goals as goal

pub returns : goal.returns
returns c =
    λ names numbered.
    let name = c.args.name.now in
    rw c.contains_key.ensures (is_numbered (get_by_text c.args.numbers.now name) names name (numbered name))
