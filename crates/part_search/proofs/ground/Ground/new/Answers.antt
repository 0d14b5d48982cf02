use Rattle.std.proofs.Common.{◌≡◌, pos, to_z, of_z, rules, sym, subst}
use Rattle.std.specs.Int.{w128}
use Rattle.dual_ascent.specs.AscentRange.{HasRange}
use Rattle.pair_duals.specs.CostStep.{step_of}
use Rattle.qap_cost.specs.Instance.{Problem}
use Rattle.part_search.specs.Ground.{IsGround}
use Rattle.part_search.specs.declared.ground.Bounds.{Bounds}
use Rattle.part_search.specs.declared.ground.Bounds.TheVariants.{Duals}
use Rattle.part_search.proofs.ground.Ground.new.Goals as goal

pub invariant_of-result : goal.invariant_of-result
invariant_of-result c =
    let I = c.args.instance.now in
    let step : to_z w128 (of_z w128 c.cost_step-step.result) ≡ pos (step_of I) = search rules in
    let range : HasRange I c.args.scale = search rules in
    let bounds : Bounds = Duals (record { step = to_z w128 (of_z w128 c.cost_step-step.result); scale = c.args.scale; duals = c.in_ok-duals.duals }) in
    let ground : IsGround I c.in_ok-flows.flows.permutations.items c.in_ok-distances.distances.permutations.items bounds = record {
      symmetries = record { keep_flows = (c.in_ok-flows.ensures {u = tt}).keep; keep_distances = (c.in_ok-distances.ensures {u = tt}).keep };
      bounds_are = record { is_step = step; range = range };
    } in
    subst (λ (J : Problem). IsGround J c.in_ok-flows.flows.permutations.items c.in_ok-distances.distances.permutations.items bounds) (sym ((c.in_ok-copy.ensures {u = tt}).value)) ground
