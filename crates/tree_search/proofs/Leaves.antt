-- Proofs whose tree is one leaf.
use Rattle.std.proofs.Common.{◌≡◌, ℕ, List, ap, length, subst, sym, ◌∙◌, arith}
use Rattle.std.specs.Prelude.{ℤ}
use Rattle.gilmore_lawler.specs.Closing.{AreDuals, Closes}
use Rattle.qap_cost.specs.Bijection.{IsPerm}
use Rattle.qap_cost.specs.Instance.{Problem}
use Rattle.qap_cost.specs.Objective.{Permutes, cost_of}
use Rattle.qap_cost.specs.Placement.{Placement}
use Rattle.qap_cost.specs.Range.{IsLimited}
use Rattle.qap_lines.specs.Bound.{IsBoundFor}
use Rattle.qap_proof.specs.Claim.{Claim, claim_of, IsProof, IsRoot, Proves}
use Rattle.qap_proof.specs.Shape.{free_count}
use Rattle.qap_proof.specs.Tree.{Node, Pair, closed}
use Rattle.subtree_search.specs.Best.{Best, IsIncumbent}
use Rattle.tree_search.specs.Found.{IsFoundWith}

-- a permutation of an instance that has a root
pub permutation-of : (I : Problem) (x : Placement) (p : List ℕ) → IsRoot I.size x → Permutes I p → IsPerm p
permutation-of I x p root h = record {
  bijection = h.bijection;
  positive = omega (arith, root.placement.positive, root.size, h.same_size);
  small = omega (arith, root.placement.small, root.size, h.same_size);
}

-- a leaf over a root of the instance has the shape of a proof
pub leaf-shape : (I : Problem) (x : Placement) (c g : ℤ) (p : List ℕ) (t : Node) (d : Pair) → IsRoot I.size x → Permutes I p → IsLimited c → IsBoundFor c g → t ≡ closed d → AreDuals (free_count x) d.u d.v → IsProof (claim_of x c g p t)
leaf-shape I x c g p t d root h limited bound is duals = record {
  cost = limited;
  bound = bound;
  permutation = permutation-of I x p root h;
  root = subst (λ (n : ℕ). IsRoot n x) (sym h.same_size) root;
  tree = rw is duals;
}

-- and proves a bound that its duals reach
pub leaf-proves : (I : Problem) (x : Placement) (c g : ℤ) (p : List ℕ) (t : Node) (d : Pair) → Permutes I p → cost_of I p ≡ c → t ≡ closed d → Closes I g x d.u d.v → Proves I (claim_of x c g p t)
leaf-proves I x c g p t d h cost is closes = record { same_size = h.same_size; cost = cost; tree = rw is closes }

-- a proof whose tree is such a leaf is found with the incumbent
pub leaf-found : (I : Problem) (x y : Placement) (b : Best) (c g : ℤ) (p : List ℕ) (t : Node) (d : Pair) (C : Claim) → IsProof C → C ≡ claim_of y c g p t → y ≡ x → c ≡ b.cost → p ≡ b.permutation → IsIncumbent I b → t ≡ closed d → Closes I g x d.u d.v → IsFoundWith I x b C
leaf-found I x y b c g p t d C shape is here cost perm h leaf closes =
    let permutes = subst (Permutes I) (sym perm) h.permutes in
    let costs : cost_of I p ≡ c = ap (cost_of I) perm ∙ sym h.cost ∙ sym cost in
    let proves = leaf-proves I y c g p t d permutes costs leaf (subst (λ (z : Placement). Closes I g z d.u d.v) (sym here) closes) in
    record {
      shape = shape;
      proves = subst (Proves I) (sym is) proves;
      root = ap (λ (D : Claim). D.root) is ∙ here;
      cost = ap (λ (D : Claim). D.cost) is ∙ cost;
    }
