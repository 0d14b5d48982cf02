use Rattle.std.proofs.Common.{◌≡◌, ◌++◌, ℤ, List, drop, length, take, ◌∙◌, ap, ap₂, subst, sym, refl, to_z, of_z, arith, rules}
use Rattle.std.specs.Int.{int_min, w128}
use Rattle.qap_proof.proofs.CoverLaws.{IsCovering-admitted, written_whole}
use Rattle.qap_proof.specs.Cover.{AreRaised, CoverValue, Establishes, IsAdmitted, IsCovering, cover_of}
use Rattle.qap_proof.specs.declared.leaf.Leaf.{Leaf}
use Rattle.qap_proof.proofs.cover.Cover.admit.Goals as goal

pub invariant_of-self : goal.invariant_of-self
invariant_of-self c =
    let I = c.self.inside.ranked in
    let x = c.self.inside.root in
    let y = c.args.root.now in
    let d = c.args.cost in
    let g = c.args.bound in
    let old = c.self.inside.leaves.items in
    let new = c.raise.new.leaves in
    let e = to_z w128 (of_z w128 c.min-self-inside.result) in
    let same : length new ≡ length old = c.raise.ensures.0 ∙ ap length c.deref_mut.ensures.value in
    let cost_is : to_z w128 (of_z w128 d) ≡ d = search rules in
    let bound_is : to_z w128 (of_z w128 g) ≡ g = search rules in
    let own_is : to_z w128 (of_z w128 c.self.inside.cost) ≡ c.self.inside.cost = search rules in
    let least_is : e ≡ c.min-self-inside.result = search rules in
    let least : e ≡ int_min c.self.inside.cost d = least_is ∙ c.min-self-inside.ensures.value ∙ ap₂ int_min own_is cost_is in
    let raised : AreRaised y g old new =
    subst (λ (z : ℤ). AreRaised y z old new) bound_is
    (subst (λ (ls : List Leaf). AreRaised y (to_z w128 (of_z w128 g)) ls new) c.deref_mut.ensures.value c.raise.ensures) in
    let part : Establishes I y d g = subst (λ (v : CoverValue). Establishes v.instance y d g) (sym c.self.view_is) c.requires in
    subst (λ (ls : List Leaf). IsCovering (cover_of I x e ls)) (sym (written_whole c.self.inside.leaves.len old new (omega (arith, c.deref_mut.ensures.len, ap length c.deref_mut.ensures.value)) same))
    (IsCovering-admitted I x c.self.inside.cost e old new y d g part least raised c.self.invariant)

pub returns : goal.returns
returns c =
    let I = c.self.inside.ranked in
    let x = c.self.inside.root in
    let y = c.args.root.now in
    let d = c.args.cost in
    let g = c.args.bound in
    let old = c.self.inside.leaves.items in
    let new = c.raise.new.leaves in
    let e = to_z w128 (of_z w128 c.min-self-inside.result) in
    let same : length new ≡ length old = c.raise.ensures.0 ∙ ap length c.deref_mut.ensures.value in
    let cost_is : to_z w128 (of_z w128 d) ≡ d = search rules in
    let bound_is : to_z w128 (of_z w128 g) ≡ g = search rules in
    let own_is : to_z w128 (of_z w128 c.self.inside.cost) ≡ c.self.inside.cost = search rules in
    let least_is : e ≡ c.min-self-inside.result = search rules in
    let least : e ≡ int_min c.self.inside.cost d = least_is ∙ c.min-self-inside.ensures.value ∙ ap₂ int_min own_is cost_is in
    let raised : AreRaised y g old new =
    subst (λ (z : ℤ). AreRaised y z old new) bound_is
    (subst (λ (ls : List Leaf). AreRaised y (to_z w128 (of_z w128 g)) ls new) c.deref_mut.ensures.value c.raise.ensures) in
    let whole = written_whole c.self.inside.leaves.len old new (omega (arith, c.deref_mut.ensures.len, ap length c.deref_mut.ensures.value)) same in
    subst (λ (v : CoverValue). IsAdmitted y d g v (cover_of I x e (take c.self.inside.leaves.len (new ++ drop (length new) old)))) c.self.view_is
    (subst (λ (ls : List Leaf). IsAdmitted y d g (cover_of I x c.self.inside.cost old) (cover_of I x e ls)) (sym whole)
    (record { instance = refl; root = refl; cost = least; leaves = raised }))
