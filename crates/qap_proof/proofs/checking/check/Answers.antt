use Rattle.std.proofs.Common.{◌≡◌, ◌∷◌, ◌∙◌, ℤ, List, [], length, refl, ap, subst, arith, rules, to_z, of_z}
use Rattle.std.specs.Int.{w128}
use Rattle.std.specs.Prelude.{ℕ}
use Rattle.qap_cost.specs.Instance.{Problem, IsInstance}
use Rattle.qap_cost.specs.Objective.{cost_of}
use Rattle.qap_cost.specs.Placement.{Placement, root_of}
use Rattle.qap_proof.proofs.Validity.{Proves-NoneCompletesForLess, Proves-IsLeast}
use Rattle.qap_proof.specs.Claim.{Claim, IsRoot, Proves}
use Rattle.qap_proof.specs.Code.{placement_of}
use Rattle.qap_proof.specs.Memory.{node_of}
use Rattle.qap_proof.specs.Tree.{Node, whole}
use Rattle.qap_proof.specs.Valid.{Valid}
use Rattle.qap_proof.proofs.checking.check.Goals as goal

-- what is proved, where the tree shows it of an instance, a bound, a root and a tree that are the proof's
proved_by : (I J : Problem) (C : Claim) (g : ℤ) (x : Placement) (t : Node) → J ≡ I → g ≡ C.bound → x ≡ C.root → t ≡ C.tree → length C.permutation ≡ I.size → cost_of I C.permutation ≡ C.cost → Valid J g (whole x) t → Proves I C
proved_by I J C g x t of_instance of_bound of_root of_tree size cost valid = record {
  same_size = size;
  cost = cost;
  tree = subst (λ (z : ℤ). Valid I z (whole C.root) C.tree) of_bound
      (subst (λ (y : Placement). Valid I g (whole y) C.tree) of_root (subst (λ (u : Node). Valid I g (whole x) u) of_tree (subst (λ (K : Problem). Valid K g (whole x) t) of_instance valid)));
}

no_numbers : (xs : List ℕ) → length xs ≡ 0 → xs ≡ []
no_numbers [] none = refl
no_numbers (x ∷ xs) none = absurd (omega (arith, none))

-- a root that places nothing
root_is : (n : ℕ) (x : Placement) → IsRoot n x → length x.facilities ≡ 0 → x ≡ root_of n
root_is n x h none =
    ap (λ k. placement_of k x.facilities x.places) h.size
    ∙ ap (λ fs. placement_of n fs x.places) (no_numbers x.facilities none)
    ∙ ap (λ ks. placement_of n [] ks) (no_numbers x.places (h.placement.paired ∙ none))

pub returns-clause-bound : goal.returns-clause-bound
returns-clause-bound c =
    let I = c.args.instance.now in
    let C = c.args.proof.now in
    let ranked = c.in_ok-ranked.ensures in
    let stated = c.in_ok-check_stated.ensures in
    let bound_is : to_z w128 (of_z w128 c.bound.result) ≡ c.bound.result = search rules in
    let proved = proved_by I I C (to_z w128 (of_z w128 c.bound.result)) c.root.result.now (node_of c.tree.result.now) refl (bound_is ∙ c.bound.ensures.value) c.root.ensures.value c.tree.ensures.value stated.0 stated.1 c.in_ok-check_root.ensures.0 in
    Proves-NoneCompletesForLess I C (subst IsInstance ranked.value ranked.instance) c.bound.ensures.proof proved

pub returns-clause-least : goal.returns-clause-least
returns-clause-least c =
    let I = c.args.instance.now in
    let C = c.args.proof.now in
    let ranked = c.in_ok-ranked.ensures in
    let stated = c.in_ok-check_stated.ensures in
    let bound_is : to_z w128 (of_z w128 c.bound.result) ≡ c.bound.result = search rules in
    let proved = proved_by I I C (to_z w128 (of_z w128 c.bound.result)) c.root.result.now (node_of c.tree.result.now) refl (bound_is ∙ c.bound.ensures.value) c.root.ensures.value c.tree.ensures.value stated.0 stated.1 c.in_ok-check_root.ensures.0 in
    λ none. Proves-IsLeast I C (subst IsInstance ranked.value ranked.instance) c.bound.ensures.proof proved (root_is (length C.permutation) C.root c.bound.ensures.proof.root none ∙ ap root_of stated.0)
