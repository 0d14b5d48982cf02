use Rattle.std.proofs.Common.{◌≡◌, ◌∙◌, ◌^◌, ◌≤◌, ◌*◌, ap, arith, of_z, pos, to_z}
use Rattle.std.specs.Int.{w128}
use Rattle.qap_lines.proofs.Numerals.{reads_wide}
use Rattle.pair_duals.specs.CostStep.{step_of}
use Rattle.proof_versions.proofs.CostSteps.{step_of-within}
use Rattle.proof_versions.proofs.pairs.step.Goals as goal

pub overflow_cast-result : goal.overflow_cast-result
overflow_cast-result c =
    let step = step_of c.args.instance.now in
    let small : step ≤ 2 * 10 ^ 18 = step_of-within c.args.instance.now c.size-size.ensures.instance in
    let read : to_z w128 (of_z w128 c.cost_step.result) ≡ pos step = ap (λ z. to_z w128 (of_z w128 z)) c.cost_step.ensures ∙ reads_wide (pos step) (omega (arith, small)) in
    rw read (tt, omega (arith, small))
