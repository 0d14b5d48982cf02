use Rattle.std.proofs.Common.{arith, sym, ◌∙◌}
use Rattle.pair_duals.specs.CostStep.{is_row_mirrored}
use Rattle.pair_duals.specs.Numbers.{number_at}
use Rattle.pair_duals.proofs.CostSteps.{all_to-fails}
use Rattle.pair_duals.proofs.step.is_symmetric.Goals as goal

pub returns-then-not-is_symmetric_row : goal.returns-then-not-is_symmetric_row
returns-then-not-is_symmetric_row c =
    let n = c.args.instance.now.size in
    sym (all_to-fails (is_row_mirrored (number_at c.args.instance.now c.args.numbers) n) n c.loop-i.i (omega (arith, c.size-i-end.ensures.value))
    (sym c.is_symmetric_row.ensures ∙ c.if-not-is_symmetric_row.true))
