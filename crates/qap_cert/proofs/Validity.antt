-- A valid tree bounds the cost of every permutation that completes its node.
use Rattle.std.proofs.Common.{◌≡◌, ℕ, zero, suc, ◌<◌, List, [], ◌∷◌, length, get_or, ℤ, refl, sym, subst, arith}
use Rattle.qap_cost.proofs.Nodes.{child_of, root_completed}
use Rattle.qap_cost.proofs.Placements.{ListsFree-free_below, IsPlacement-placing}
use Rattle.std.specs.Prelude.{◌+ℤ◌, ◌≤ℤ◌}
use Rattle.std.proofs.lemmas.Int.{ints}
use Rattle.qap_cost.specs.Instance.{Problem, IsInstance}
use Rattle.qap_cost.specs.Matrix.{dual_value}
use Rattle.qap_cost.specs.Objective.{cost_of, IsLeast, NoneCostsLess}
use Rattle.qap_cost.specs.Placement.{Placement, IsPlacement, Completes, free_locations, placing, root_of, fixed_cost_of}
use Rattle.gilmore_lawler.proofs.Completions.{fixed_and_duals-le}
use Rattle.qap_cert.specs.Certificate.{Claim, IsCertificate, Certifies}
use Rattle.qap_cert.specs.Tree.{Node, split, bound, Nodes, no_nodes, node}
use Rattle.qap_cert.specs.Valid.{Valid, AllValid}

mutual
  -- a completion of a node whose tree is valid costs at least the bound
  pub valid_bounds : (t : Node) (I : Problem) (g : ℤ) (x : Placement) (p : List ℕ) → IsPlacement x → I.size ≡ x.size → Valid I g x t → Completes x p → g ≤ℤ cost_of I p
  valid_bounds (bound u v) I g x p placement same h q =
      let least : (fixed_cost_of I x +ℤ dual_value u v) ≤ℤ cost_of I p = fixed_and_duals-le I x h.closes.fits.matrix u v p placement same h.closes.fits.reduced h.closes.fits.fits q in
      let enough : g ≤ℤ (fixed_cost_of I x +ℤ dual_value u v) = h.closes.enough in
      omega (arith, ints)
  valid_bounds (split f children) I g x p placement same h q =
      let free = free_locations x in
      let child = child_of x f p placement h.1 q in
      let listed = ListsFree-free_below x.size x.places placement.places in
      let at = listed.all (get_or p f 0) child.0 in
      all_valid_bounds children I g x f free p at.0
      (λ j less. IsPlacement-placing x f (get_or free j 0) placement h.1 (listed.each j less)) same h.2 at.1
      (subst (λ (k : ℕ). Completes (placing x f k) p) (sym at.2) child.1)

  -- the same for a completion of a child
  pub all_valid_bounds : (ts : Nodes) (I : Problem) (g : ℤ) (x : Placement) (f : ℕ) (ks p : List ℕ) (i : ℕ) → ((j : ℕ) → j < length ks → IsPlacement (placing x f (get_or ks j 0))) → I.size ≡ x.size → AllValid I g x f ks ts → i < length ks → Completes (placing x f (get_or ks i 0)) p → g ≤ℤ cost_of I p
  all_valid_bounds no_nodes I g x f [] p i xs same h below q = absurd (omega arith)
  all_valid_bounds no_nodes I g x f (k ∷ ks) p i xs same h below q = absurd h
  all_valid_bounds (node t rest) I g x f [] p i xs same h below q = absurd h
  all_valid_bounds (node t rest) I g x f (k ∷ ks) p zero xs same h below q = valid_bounds t I g (placing x f k) p (xs zero (omega arith)) same h.0 q
  all_valid_bounds (node t rest) I g x f (k ∷ ks) p (suc i) xs same h below q = all_valid_bounds rest I g x f ks p i (λ j less. xs (suc j) (omega arith)) same h.1 (omega arith) q

root_placement : (I : Problem) → IsInstance I → IsPlacement (root_of I.size)
root_placement I i = record {
  positive = i.positive;
  small = i.small;
  paired = refl;
  facilities = record { within = λ j below. absurd (omega arith); distinct = λ j k hj hk e. absurd (omega arith) };
  places = record { within = λ j below. absurd (omega arith); distinct = λ j k hj hk e. absurd (omega arith) };
}

-- none costs less than the bound that is certified
pub Certifies-NoneCostsLess : (I : Problem) (C : Claim) → IsInstance I → Certifies I C → NoneCostsLess I C.bound
Certifies-NoneCostsLess I C i h =
    λ p q. valid_bounds C.tree I C.bound (root_of I.size) p (root_placement I i) refl h.tree (root_completed I.size p q.bijection q.same_size)

-- where that is the cost, it is least
pub Certifies-IsLeast : (I : Problem) (C : Claim) → IsInstance I → IsCertificate C → Certifies I C → C.bound ≡ C.cost → IsLeast I C.cost
Certifies-IsLeast I C i shape h same = record {
  reached = (C.permutation, record { bijection = shape.permutation.bijection; same_size = h.same_size }, h.cost);
  least = subst (NoneCostsLess I) same (Certifies-NoneCostsLess I C i h);
}
