use Rattle.std.proofs.Common.{◌∙◌, ◌∷◌, [], List, ap, ap₂}
use Rattle.std.specs.Prelude.{ℤ, ◌+ℤ◌}
use Rattle.qap_cost.specs.Matrix.{dual_value}
use Rattle.qap_cost.specs.Placement.{Placement}
use Rattle.qap_proof.proofs.ChildValues.{sum_of_two}
use Rattle.qap_proof.specs.Cover.{leaf}
use Rattle.qap_proof.specs.Tree.{Pair}
use Rattle.qap_proof.proofs.leaf.push_closed.Goals as goal

pub returns : goal.returns
returns c =
    let fixed = c.fixed_cost-fixed.ensures in
    let duals = c.dual_sum.ensures in
    let sum = sum_of_two c.fixed_cost-fixed.result c.dual_sum.result fixed.bounded duals.bounded
    ∙ ap₂ (λ y z. y +ℤ z)
    fixed.value
    (duals.value ∙ ap₂ (λ (u : List ℤ) (v : List ℤ). dual_value u v) c.deref.ensures.value c.deref-2.ensures.value
    ∙ ap (λ (d : Pair). dual_value d.u d.v) c.in_ok-duals.ensures) in
    record {
      leaves = _;
      is = c.in_ok-push.ensures.items;
      are = ap₂ (λ (y : Placement) (z : ℤ). leaf y z ∷ []) c.in_ok-node.ensures.value sum;
    }
