use Rattle.std.proofs.Common.{◌≡◌, ◌∙◌, List, ap, of_z, rules, subst, sym, to_z, ℕ, arith}
use Rattle.std.specs.Int.{w128}
use Rattle.std.specs.Prelude.{ℤ, ◌≤ℤ◌}
use Rattle.std.proofs.lemmas.Int.{ints}
use Rattle.std.proofs.lemmas.Result.{IfOk-weaker}
use Rattle.gilmore_lawler.specs.Closing.{AreDuals, Closes}
use Rattle.qap_cost.specs.Instance.{Problem}
use Rattle.qap_cost.specs.Objective.{Permutes}
use Rattle.qap_cost.specs.Placement.{Placement}
use Rattle.qap_cost.specs.Range.{IsLimited}
use Rattle.qap_proof.specs.Claim.{Claim, IsRoot, Proves}
use Rattle.qap_proof.specs.NodeLine.{pair_of}
use Rattle.qap_proof.specs.Shape.{free_count}
use Rattle.tree_search.specs.Evaluation.{IsEvaluation}
use Rattle.tree_search.proofs.Leaves.{leaf-found, leaf-shape}
use Rattle.tree_search.proofs.Limits.{IsLimited-min}
use Rattle.tree_search.proofs.one_leaf.one_leaf.Goals as goal

pub made-requires : goal.made-requires
made-requires c =
    let I = c.args.instance.now in
    let e = c.in_ok-evaluation.evaluation in
    let shown = subst (λ (J : Problem). IsEvaluation J c.args.root.now e) c.requires.rows c.in_ok-evaluation.ensures.evaluation in
    let cost : to_z w128 (of_z w128 c.cost-cost.result) ≡ c.cost-cost.result = search rules in
    let bound : to_z w128 (of_z w128 c.min-bound.result) ≡ c.min-bound.result = search rules in
    let value : to_z w128 (of_z w128 e.value) ≡ e.value = search rules in
    let limited : IsLimited c.cost-cost.result = omega (arith, c.cost-cost.ensures.bounded) in
    let least : IsLimited c.min-bound.result = subst IsLimited (sym c.min-bound.ensures.value)
    (IsLimited-min (to_z w128 (of_z w128 c.cost-cost.result)) (to_z w128 (of_z w128 e.value)) (subst IsLimited (sym cost) limited) (subst IsLimited (sym value) shown.limited)) in
    let root = subst (IsRoot I.size) (sym c.in_ok-root.ensures.value) c.requires.root in
    let permutes = subst (Permutes I) (sym (c.in_ok-permutation.ensures ∙ c.permutation.ensures)) c.requires.incumbent.permutes in
    leaf-shape I c.in_ok-root.root _ _ c.in_ok-permutation.permutation _ (pair_of e.duals) root permutes (subst IsLimited (sym cost) limited)
    (record { limited = subst IsLimited (sym bound) least; at_most = omega (arith, ints, c.min-bound.ensures.self_bound) })
    c.leaf.ensures (subst (λ (y : Placement). AreDuals (free_count y) e.duals.u.items e.duals.v.items) (sym c.in_ok-root.ensures.value) shown.duals)

pub returns : goal.returns
returns c =
    let I = c.args.instance.now in
    let x = c.args.root.now in
    let e = c.in_ok-evaluation.evaluation in
    let shown = subst (λ (J : Problem). IsEvaluation J c.args.root.now e) c.requires.rows c.in_ok-evaluation.ensures.evaluation in
    let b = c.args.progress.now.incumbent in
    let cost : to_z w128 (of_z w128 c.cost-cost.result) ≡ c.cost-cost.result = search rules in
    let bound : to_z w128 (of_z w128 c.min-bound.result) ≡ c.min-bound.result = search rules in
    let value : to_z w128 (of_z w128 e.value) ≡ e.value = search rules in
    let closes : Closes I (to_z w128 (of_z w128 c.min-bound.result)) x e.duals.u.items e.duals.v.items =
    record { fits = shown.fits; enough = omega (arith, ints, bound, value, c.min-bound.ensures.other_bound, shown.value) } in
    IfOk-weaker c.made.result _ _
    (λ C both. leaf-found I x c.in_ok-root.root b _ _ c.in_ok-permutation.permutation _ (pair_of e.duals) C both.1 both.0 c.in_ok-root.ensures.value (cost ∙ c.cost-cost.ensures.value)
    (c.in_ok-permutation.ensures ∙ c.permutation.ensures) c.requires.incumbent c.leaf.ensures closes)
    c.made.ensures
