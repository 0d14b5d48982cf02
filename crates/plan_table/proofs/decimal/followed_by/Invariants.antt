use Rattle.std.proofs.Common.{◌≡◌, ◌≤◌, ◌+◌, ◌++◌, List, ℕ, take}
use Rattle.plan_table.specs.Decimal.{held_magnitude, max_number}
use Rattle.plan_table.proofs.decimal.followed_by.Given as goal

abbrev pub invariant-loop-digit : goal.invariant-loop-digit
invariant-loop-digit l = record {
  held : l.magnitude ≤ max_number + 1;
  value : (front : List ℕ) → l.fn.before ≡ held_magnitude front → l.magnitude ≡ held_magnitude (front ++ take l.digit-index l.digits);
}
