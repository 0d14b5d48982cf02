use Rattle.std.proofs.Common.{◌≡◌, ◌≤◌, ◌*◌, ◌^◌}
use Rattle.plan_table.specs.Decimal.{max_number}
use Rattle.plan_table.proofs.spelled.raised.Given as goal

abbrev pub invariant-loop : goal.invariant-loop
invariant-loop l = (l.value ≡ l.magnitude * 10 ^ l.counter) × (l.value ≤ max_number)
