use Rattle.std.proofs.Common.{◌≡◌, ◌<◌, ◌≤◌, List, get_or, length, ◌∙◌, ap, to_z, of_z, arith, rules}
use Rattle.std.specs.Int.{int_min, w128}
use Rattle.std.specs.Prelude.{ℤ}
use Rattle.qap_proof.proofs.CoverLaws.{IsBounding-more, IsLeastOf-bounding}
use Rattle.qap_proof.specs.Cover.{CoverValue}
use Rattle.qap_proof.specs.declared.leaf.Leaf.{Leaf}
use Rattle.qap_proof.proofs.cover.Cover.bound.Goals as goal

pub loop-leaf-preserved : goal.loop-leaf-preserved
loop-leaf-preserved c =
    let V = c.args.self.now in
    let i = c.loop-leaf.leaf-index in
    let leaf = c.leaf-item.result in
    let items : c.deref-leaf-items.result.now ≡ V.leaves = c.deref-leaf-items.ensures.value ∙ ap (λ (v : CoverValue). v.leaves) c.self.view_is in
    let within : i < length V.leaves = omega (arith, c.loop-leaf-test.true, ap length items) in
    let is : leaf ≡ get_or V.leaves i leaf = c.leaf-item.is ∙ ap (λ (ls : List Leaf). get_or ls i leaf) items in
    let value_is : to_z w128 (of_z w128 leaf.value) ≡ leaf.value = search rules in
    let min_is = c.min-least.ensures.value ∙ ap (λ (z : ℤ). int_min (to_z w128 c.loop-leaf.least-bits) z) value_is in
    let least_is : to_z w128 (of_z w128 c.min-least.result) ≡ c.min-least.result = search rules in
    IsBounding-more V.cost V.leaves i (to_z w128 c.loop-leaf.least-bits) _ leaf within is (least_is ∙ min_is) c.loop-leaf.invariant

pub returns : goal.returns
returns c =
    let V = c.args.self.now in
    let items : c.deref-leaf-items.result.now ≡ V.leaves = c.deref-leaf-items.ensures.value ∙ ap (λ (v : CoverValue). v.leaves) c.self.view_is in
    let past : length V.leaves ≤ c.loop-leaf.leaf-index = omega (arith, c.loop-leaf-test.false, ap length items) in
    IsLeastOf-bounding V.cost V.leaves c.loop-leaf.leaf-index _ past c.loop-leaf.invariant
