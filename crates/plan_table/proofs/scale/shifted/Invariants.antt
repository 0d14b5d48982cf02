use Rattle.std.proofs.Common.{◌≡◌}
use Rattle.plan_table.specs.Scale.{shifted}
use Rattle.plan_table.proofs.scale.shifted.Given as goal

abbrev pub invariant-loop : goal.invariant-loop
invariant-loop l = l.value ≡ shifted l.number l.counter
