use Rattle.std.proofs.Common.{◌≡◌, true}
use Rattle.pair_duals.specs.CostStep.{all_to, is_mirrored}
use Rattle.pair_duals.specs.Numbers.{number_at}
use Rattle.pair_duals.proofs.step.is_symmetric_row.Given as goal

abbrev pub invariant-loop-j : goal.invariant-loop-j
invariant-loop-j l = all_to (is_mirrored (number_at l.instance l.numbers) l.i) l.j ≡ true
