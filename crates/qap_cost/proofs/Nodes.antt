-- The laws of nodes: each completion of a node completes just one child, and a node that places all facilities has its cost.
use Rattle.std.proofs.Common.{◌≡◌, ℕ, ◌<◌, List, [], ◌∷◌, ◌++◌, length, map, get_or, refl, sym, ◌∙◌, ap, ap₂, inl, inr, arith}
use Rattle.std.specs.Prelude.{ℤ, ◌*ℤ◌}
use Rattle.std.proofs.lemmas.Bool.{cases_eq}
use Rattle.std.proofs.lemmas.List.{get_or_append_left, get_or_push, length_push, length-map, get_or-map, ext_get_or}
use Rattle.qap_cost.specs.Sum.{sum_to}
use Rattle.qap_cost.specs.Bijection.{IsBijection}
use Rattle.qap_cost.specs.Instance.{Problem, entry}
use Rattle.qap_cost.specs.Objective.{pair_cost, row_cost, cost_of}
use Rattle.qap_cost.specs.Placement.{Placement, IsPlacement, IsFreeFacility, IsFreeLocation, Completes, placing, root_of, placed_pair_cost, fixed_cost_of}
use Rattle.qap_cost.proofs.Bijections.{inverse_of, inverse-IsBijection, sum_to-in_order}
use Rattle.qap_cost.proofs.Sums.{sum_to-same}

-- each permutation completes the root
pub root_completed : (n : ℕ) (p : List ℕ) → IsBijection p → length p ≡ n → Completes (root_of n) p
root_completed n p b same = record { bijection = b; same_size = same; agrees = λ t below. absurd (omega arith) }

-- ---- a child

-- a permutation that completes a node completes the child at the free location where it puts the free facility f
pub child_of : (x : Placement) (f : ℕ) (p : List ℕ) → IsPlacement x → IsFreeFacility x f → Completes x p → IsFreeLocation x (get_or p f 0) × Completes (placing x f (get_or p f 0)) p
child_of x f p x_is free h =
    let k = get_or p f 0 in
    let d = length x.facilities in
    let below : (t : ℕ) → t < d → get_or x.facilities t 0 < length p = λ t less. omega (arith, h.same_size, x_is.facilities.within t less) in (
      record {
        within = omega (arith, h.same_size, h.bijection.within f (omega (arith, h.same_size, free.within)));
        untaken = λ t less e.
            let placed : t < d = omega (arith, x_is.paired) in
            free.untaken t placed (h.bijection.distinct (get_or x.facilities t 0) f (below t placed) (omega (arith, h.same_size, free.within)) (h.agrees t placed ∙ e));
      },
      record {
        bijection = h.bijection;
        same_size = h.same_size;
        agrees = λ t less.
            elim (cases_eq t d) [
              | inl same ↦
                  ap (λ (j : ℕ). get_or p (get_or (x.facilities ++ f ∷ []) j 0) 0) same
                  ∙ ap (λ (j : ℕ). get_or p j 0) (get_or_push x.facilities f 0 d refl)
                  ∙ sym (ap (λ (j : ℕ). get_or (x.places ++ k ∷ []) j 0) same ∙ get_or_push x.places k 0 d x_is.paired)
              | inr other ↦
                  let placed : t < d = omega (arith, length_push x.facilities f) in
                  ap (λ (j : ℕ). get_or p j 0) (get_or_append_left x.facilities (f ∷ []) 0 t placed)
                  ∙ h.agrees t placed
                  ∙ sym (get_or_append_left x.places (k ∷ []) 0 t (omega (arith, x_is.paired)))
            ];
      },
    )

-- a permutation that completes a child puts the child's facility at the child's location
pub child_is : (x : Placement) (f k : ℕ) (p : List ℕ) → IsPlacement x → Completes (placing x f k) p → get_or p f 0 ≡ k
child_is x f k p x_is h =
    let d = length x.facilities in
    ap (λ (j : ℕ). get_or p j 0) (sym (get_or_push x.facilities f 0 d refl))
    ∙ h.agrees d (omega (arith, length_push x.facilities f))
    ∙ get_or_push x.places k 0 d x_is.paired

-- a permutation that completes a child completes the node
pub parent_of : (x : Placement) (f k : ℕ) (p : List ℕ) → IsPlacement x → Completes (placing x f k) p → Completes x p
parent_of x f k p x_is h = record {
  bijection = h.bijection;
  same_size = h.same_size;
  agrees = λ t less.
      ap (λ (j : ℕ). get_or p j 0) (sym (get_or_append_left x.facilities (f ∷ []) 0 t less))
      ∙ h.agrees t (omega (arith, length_push x.facilities f))
      ∙ get_or_append_left x.places (k ∷ []) 0 t (omega (arith, x_is.paired));
}

-- ---- a node that places all facilities

all_placed : (x : Placement) → IsPlacement x → length x.facilities ≡ x.size → IsBijection x.facilities
all_placed x h all = record { within = λ i below. omega (arith, h.facilities.within i below); distinct = h.facilities.distinct }

all_taken : (x : Placement) → IsPlacement x → length x.facilities ≡ x.size → IsBijection x.places
all_taken x h all = record { within = λ i below. omega (arith, h.paired, h.places.within i below); distinct = h.places.distinct }

-- a node that places all facilities is completed by some permutation
pub whole_completed : (x : Placement) → IsPlacement x → length x.facilities ≡ x.size → (p : List ℕ) × Completes x p
whole_completed x h all =
    let n = x.size in
    let F = x.facilities in
    let v = inverse_of F (all_placed x h all) in
    let q = v.0 in
    let count : length q ≡ n = v.1.same_length ∙ all in
    let b : IsBijection q = inverse-IsBijection F q (all_placed x h all) v.1 in
    let places = all_taken x h all in
    let p = map (λ t. get_or x.places t 0) q in
    let long : length p ≡ n = length-map q (λ t. get_or x.places t 0) ∙ count in
    let at : (i : ℕ) → i < n → get_or p i 0 ≡ get_or x.places (get_or q i 0) 0 = λ i below. get_or-map (λ t. get_or x.places t 0) q i 0 0 (omega (arith, count)) in
    let inside : (i : ℕ) → i < n → get_or q i 0 < length x.places = λ i below. omega (arith, count, all, h.paired, b.within i (omega (arith, count))) in (
      p,
      record {
        bijection = record {
          within = λ i below. omega (arith, long, at i (omega (arith, long)), all, h.paired, places.within (get_or q i 0) (inside i (omega (arith, long))));
          distinct = λ i j hi hj e.
              b.distinct i j (omega (arith, long, count)) (omega (arith, long, count))
              (places.distinct (get_or q i 0) (get_or q j 0) (inside i (omega (arith, long))) (inside j (omega (arith, long))) (sym (at i (omega (arith, long))) ∙ e ∙ at j (omega (arith, long))));
        };
        same_size = long;
        agrees = λ t less.
            at (get_or F t 0) (omega (arith, all, h.facilities.within t less))
            ∙ ap (λ (j : ℕ). get_or x.places j 0) (v.1.there t less);
      },
    )

-- a node that places all facilities is completed by no more than one permutation
pub whole_only : (x : Placement) (p q : List ℕ) → IsPlacement x → length x.facilities ≡ x.size → Completes x p → Completes x q → p ≡ q
whole_only x p q h all a b =
    let F = x.facilities in
    let v = inverse_of F (all_placed x h all) in
    let at : (i : ℕ) → i < length p → get_or p i 0 ≡ get_or q i 0 =
    λ i below.
    let t = get_or v.0 i 0 in
    let placed : t < length F = omega (arith, v.1.same_length, all, a.same_size, (inverse-IsBijection F v.0 (all_placed x h all) v.1).within i (omega (arith, v.1.same_length, all, a.same_size))) in
    let is : get_or F t 0 ≡ i = v.1.back i (omega (arith, all, a.same_size)) in
    ap (λ (j : ℕ). get_or p j 0) (sym is) ∙ a.agrees t placed ∙ sym (b.agrees t placed) ∙ ap (λ (j : ℕ). get_or q j 0) is in
    ext_get_or 0 p q (a.same_size ∙ sym b.same_size) at

-- the permutation that completes a node which places all facilities costs what the node's placed facilities cost
pub whole_cost : (I : Problem) (x : Placement) (p : List ℕ) → IsPlacement x → I.size ≡ x.size → length x.facilities ≡ x.size → Completes x p → cost_of I p ≡ fixed_cost_of I x
whole_cost I x p h size all done =
    let d = length x.facilities in
    let n_is : I.size ≡ d = size ∙ sym all in
    let at : ℕ → ℕ = λ s. get_or x.facilities s 0 in
    let in_order : (g : ℕ → ℤ) → sum_to g I.size ≡ sum_to (λ s. g (at s)) d =
    λ g. ap (sum_to g) n_is ∙ sym (sum_to-in_order g x.facilities (all_placed x h all)) in
    let pair : (s t : ℕ) → s < d → t < d → pair_cost I p (at s) (at t) ≡ placed_pair_cost I x s t =
    λ s t hs ht. ap₂ (λ (k l : ℕ). entry I.size I.a (at s) (at t) *ℤ entry I.size I.b k l) (done.agrees s hs) (done.agrees t ht) in
    let row : (s : ℕ) → s < d → row_cost I p (at s) ≡ sum_to (placed_pair_cost I x s) d =
    λ s hs.
    in_order (pair_cost I p (at s))
    ∙ sum_to-same (λ t. pair_cost I p (at s) (at t)) (placed_pair_cost I x s) d (λ t ht. pair s t hs ht) in
    in_order (row_cost I p)
    ∙ sum_to-same (λ s. row_cost I p (at s)) (λ s. sum_to (placed_pair_cost I x s) d) d row
