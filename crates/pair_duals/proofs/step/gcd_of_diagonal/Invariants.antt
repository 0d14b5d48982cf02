use Rattle.std.proofs.Common.{◌≡◌, ◌*◌, ◌^◌, ◌≤◌}
use Rattle.pair_duals.specs.CostStep.{gcd_to}
use Rattle.pair_duals.specs.Numbers.{number_at}
use Rattle.pair_duals.specs.CostStep.{on_diagonal}
use Rattle.pair_duals.proofs.step.gcd_of_diagonal.Given as goal

abbrev pub invariant-loop-i : goal.invariant-loop-i
invariant-loop-i l = record {
  value : l.divisor ≡ gcd_to (on_diagonal (number_at l.instance l.numbers)) l.i;
  range : l.divisor ≤ 2 * 10 ^ 9;
}
