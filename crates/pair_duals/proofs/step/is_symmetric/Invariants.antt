use Rattle.std.proofs.Common.{◌≡◌, true}
use Rattle.pair_duals.specs.CostStep.{all_to, is_row_mirrored}
use Rattle.pair_duals.specs.Numbers.{number_at}
use Rattle.pair_duals.proofs.step.is_symmetric.Given as goal

abbrev pub invariant-loop-i : goal.invariant-loop-i
invariant-loop-i l = all_to (is_row_mirrored (number_at l.instance l.numbers) l.instance.size) l.i ≡ true
