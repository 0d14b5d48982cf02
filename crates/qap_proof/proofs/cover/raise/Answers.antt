use Rattle.std.proofs.Common.{◌≡◌, ◌+◌, get_or, set, subst, sym, to_z, of_z, arith, rules}
use Rattle.std.specs.Int.{w128}
use Rattle.std.specs.Prelude.{ℤ}
use Rattle.qap_proof.proofs.CoverLaws.{AreRaisedTo, AreRaisedTo-more}
use Rattle.qap_proof.specs.Cover.{IsRaisedValue}
use Rattle.qap_proof.specs.declared.leaf.Leaf.{Leaf}
use Rattle.qap_proof.proofs.cover.raise.Goals as goal

pub loop-leaf-preserved : goal.loop-leaf-preserved
loop-leaf-preserved c =
    let root = c.args.root.now in
    let bound = to_z w128 (of_z w128 c.args.bound) in
    let leaf = c.leaf-item.result in
    let value = to_z w128 (of_z w128 c.raised-leaf.result) in
    let value_is : value ≡ c.raised-leaf.result = search rules in
    let raised : IsRaisedValue root bound leaf value =
    subst (λ (l : Leaf). IsRaisedValue root bound l value) (sym c.leaf-item.is)
    (subst (λ (z : ℤ). IsRaisedValue root bound (get_or c.loop-leaf.leaves c.loop-leaf.leaf-index leaf) z) (sym value_is) c.raised-leaf.ensures) in
    subst (λ (l : Leaf). AreRaisedTo root bound (c.loop-leaf.leaf-index + 1) c.args.leaves.now (set c.loop-leaf.leaves c.loop-leaf.leaf-index (record { node = l.node; value = value }))) c.leaf-item.is
    (AreRaisedTo-more root bound c.loop-leaf.leaf-index c.args.leaves.now c.loop-leaf.leaves leaf value (omega (arith, c.loop-leaf-test.true, c.loop-leaf.invariant.same)) c.leaf-item.is raised c.loop-leaf.invariant)
