use Rattle.std.proofs.Common.{◌≡◌, ◌*◌, ◌^◌, ◌≤◌}
use Rattle.pair_duals.specs.CostStep.{gcd_to}
use Rattle.pair_duals.specs.Numbers.{number_at}
use Rattle.pair_duals.specs.CostStep.{gcd_of_row}
use Rattle.pair_duals.proofs.step.gcd_of_others.Given as goal

abbrev pub invariant-loop-i : goal.invariant-loop-i
invariant-loop-i l = record {
  value : l.divisor ≡ gcd_to (gcd_of_row (number_at l.instance l.numbers) l.instance.size) l.i;
  range : l.divisor ≤ 2 * 10 ^ 9;
}
