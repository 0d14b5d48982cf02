use Rattle.std.proofs.Common.{◌≡◌, map, take}
use Rattle.serde_json.specs.View.{view}
use Rattle.plan_check.specs.Stated.{whole}
use Rattle.plan_check.proofs.stated.numbers_of.Given as goal

abbrev pub invariant-loop-i : goal.invariant-loop-i
invariant-loop-i l = (map view (take l.i l.items) ≡ map whole l.numbers.items)
