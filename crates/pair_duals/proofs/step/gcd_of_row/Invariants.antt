use Rattle.std.proofs.Common.{◌≡◌, ◌*◌, ◌^◌, ◌≤◌}
use Rattle.pair_duals.specs.CostStep.{gcd_to}
use Rattle.pair_duals.specs.Numbers.{number_at}
use Rattle.pair_duals.specs.Reduced.{but}
use Rattle.pair_duals.proofs.step.gcd_of_row.Given as goal

abbrev pub invariant-loop-j : goal.invariant-loop-j
invariant-loop-j l = record {
  value : l.divisor ≡ gcd_to (but l.i (number_at l.instance l.numbers l.i)) l.j;
  range : l.divisor ≤ 2 * 10 ^ 9;
}
