-- Where duals fit the reduced matrix of a node, no permutation that completes the node costs less than what the placed
-- facilities cost among themselves and the sum of the duals.
use Rattle.std.proofs.Common.{◌≡◌, ◌≢◌, ℕ, suc, ◌+◌, ◌-◌, ◌<◌, ◌≤◌, ◌++◌, refl, sym, ◌∙◌, ap, ap₂, arith, List, length, get_or, inl, inr}
use Rattle.std.specs.Prelude.{ℤ, pos, ◌+ℤ◌, ◌*ℤ◌, ◌≤ℤ◌, ◌-ℤ◌, remove}
use Rattle.std.proofs.lemmas.Int.{ints}
use Rattle.std.proofs.lemmas.Bool.{cases_lt}
use Rattle.std.proofs.lemmas.List.{get_or_append_left, get_or-append-add, length-append, length-map}
use Rattle.qap_cost.specs.Sum.{sum_to}
use Rattle.qap_cost.specs.Bijection.{IsBijection}
use Rattle.qap_cost.specs.Instance.{Problem, entry}
use Rattle.qap_cost.specs.Row.{product_at}
use Rattle.qap_cost.specs.Objective.{pair_cost, row_cost, cost_of}
use Rattle.qap_cost.specs.Matrix.{Square, DualsFit, entry_of, assigned, assignment_cost, dual_value}
use Rattle.qap_cost.proofs.Sums.{sum_to-same, sum_to-add, sum_to-exchange, sum_to-monotone}
use Rattle.qap_cost.proofs.Bijections.{sum_to-in_order, inverse_of, inverse-IsBijection}
use Rattle.qap_cost.proofs.Matrices.{dual_value-le}
use Rattle.gilmore_lawler.specs.LeastProduct.{Pairs, paired_sum, IsLeastProduct}
use Rattle.qap_cost.specs.Placement.{Placement, IsPlacement, Completes, free_facilities, free_locations, fixed_cost_of}
use Rattle.qap_cost.proofs.Placements.{ListsFree-free_below, IsBijection-free_below}
use Rattle.gilmore_lawler.specs.ReducedMatrix.{IsReducedEntry, IsReduced, cost_with, linear_cost, others}
use Rattle.gilmore_lawler.proofs.Lists.{list_of, length-list_of, get_or-list_of, IsBijection-list_of, composed, length-composed, get_or-composed, IsBijection-composed}
use Rattle.gilmore_lawler.proofs.Skips.{skip, unskip, skip-other, skip-injective, skip-within, skip-unskip, unskip-within, sum_to-apart, sum_to-split, length-remove, get_or-map_remove}

-- a double sum in four parts: the first d by the first d, and for each later one what it has with the first and with
-- the later ones
sum_to-quarters : (f : ℕ → ℕ → ℤ) (d m : ℕ) → sum_to (λ s. sum_to (f s) (d + m)) (d + m) ≡ sum_to (λ s. sum_to (f s) d) d +ℤ sum_to (λ r. sum_to (λ t. f (d + r) t +ℤ f t (d + r)) d +ℤ sum_to (λ l. f (d + r) (d + l)) m) m
sum_to-quarters f d m =
    let rows : sum_to (λ s. sum_to (f s) (d + m)) (d + m) ≡ sum_to (λ s. sum_to (f s) d +ℤ sum_to (λ l. f s (d + l)) m) (d + m) =
    sum_to-same (λ s. sum_to (f s) (d + m)) (λ s. sum_to (f s) d +ℤ sum_to (λ l. f s (d + l)) m) (d + m) (λ s h. sum_to-split (f s) d m) in
    let parts = sum_to-split (λ s. sum_to (f s) d +ℤ sum_to (λ l. f s (d + l)) m) d m in
    let first = sum_to-add (λ s. sum_to (f s) d) (λ s. sum_to (λ l. f s (d + l)) m) d in
    let crossed : sum_to (λ s. sum_to (λ l. f s (d + l)) m) d ≡ sum_to (λ r. sum_to (λ t. f t (d + r)) d) m =
    sum_to-exchange (λ s l. f s (d + l)) d m in
    let later = sum_to-add (λ r. sum_to (f (d + r)) d) (λ r. sum_to (λ l. f (d + r) (d + l)) m) m in
    let both : sum_to (λ r. sum_to (λ t. f (d + r) t +ℤ f t (d + r)) d +ℤ sum_to (λ l. f (d + r) (d + l)) m) m ≡ sum_to (λ r. (sum_to (f (d + r)) d +ℤ sum_to (λ t. f t (d + r)) d) +ℤ sum_to (λ l. f (d + r) (d + l)) m) m =
    sum_to-same (λ r. sum_to (λ t. f (d + r) t +ℤ f t (d + r)) d +ℤ sum_to (λ l. f (d + r) (d + l)) m) (λ r. (sum_to (f (d + r)) d +ℤ sum_to (λ t. f t (d + r)) d) +ℤ sum_to (λ l. f (d + r) (d + l)) m) m
    (λ r h. ap (λ z. z +ℤ sum_to (λ l. f (d + r) (d + l)) m) (sum_to-add (f (d + r)) (λ t. f t (d + r)) d)) in
    let spread = sum_to-add (λ r. sum_to (f (d + r)) d +ℤ sum_to (λ t. f t (d + r)) d) (λ r. sum_to (λ l. f (d + r) (d + l)) m) m in
    let spread_more = sum_to-add (λ r. sum_to (f (d + r)) d) (λ r. sum_to (λ t. f t (d + r)) d) m in
    omega (arith, ints, rows, parts, first, crossed, later, both, spread, spread_more)

-- each of n facilities is placed or free, and each of n locations taken or free
record Halves (n : ℕ) (x : Placement) : Type 0 where
  size : x.size ≡ n
  paired : length x.places ≡ length x.facilities
  facilities : IsBijection (x.facilities ++ free_facilities x)
  locations : IsBijection (x.places ++ free_locations x)
  facility_count : length (x.facilities ++ free_facilities x) ≡ n
  location_count : length (x.places ++ free_locations x) ≡ n

Halves-from_placement : (n : ℕ) (x : Placement) → IsPlacement x → n ≡ x.size → Halves n x
Halves-from_placement n x h same = record {
  size = sym same;
  paired = h.paired;
  facilities = IsBijection-free_below x.size x.facilities h.facilities;
  locations = IsBijection-free_below x.size x.places h.places;
  facility_count = omega (arith, same, length-append x.facilities (free_facilities x), (ListsFree-free_below x.size x.facilities h.facilities).count);
  location_count = omega (arith, same, length-append x.places (free_locations x), (ListsFree-free_below x.size x.places h.places).count);
}

-- where a permutation that completes a node puts its free facilities: that of number r on the free location of number
-- seat(r)
pub record IsSeating (x : Placement) (p : List ℕ) (seat : List ℕ) : Type 0 where
  pub bijection : IsBijection seat
  pub rows : length seat ≡ length (free_facilities x)
  pub columns : length seat ≡ length (free_locations x)
  pub stands : (r : ℕ) → r < length seat → get_or p (get_or (free_facilities x) r 0) 0 ≡ get_or (free_locations x) (get_or seat r 0) 0

-- the free ones stand after the placed ones
later_at : (xs ys : List ℕ) (d r : ℕ) → length xs ≡ d → get_or (xs ++ ys) (d + r) 0 ≡ get_or ys r 0
later_at xs ys d r e = ap (λ k. get_or (xs ++ ys) (k + r) 0) (sym e) ∙ get_or-append-add xs ys r 0

IsSeating-from_completes : (n : ℕ) (x : Placement) (p : List ℕ) → Halves n x → Completes x p → (seat : List ℕ) × IsSeating x p seat
IsSeating-from_completes n x p node done =
    let done_size : length p ≡ n = done.same_size ∙ node.size in
    let d = length x.facilities in
    let m = length (free_facilities x) in
    let S = x.facilities ++ (free_facilities x) in
    let T = x.places ++ (free_locations x) in
    let counts : d + m ≡ n = sym (length-append x.facilities (free_facilities x)) ∙ node.facility_count in
    let column_count : length (free_locations x) ≡ m =
    omega (arith, counts, length-append x.places (free_locations x), node.location_count, node.paired) in
    let back = inverse_of T node.locations in
    let inv = back.0 in
    let inv_bijection : IsBijection inv = inverse-IsBijection T inv node.locations back.1 in
    let inv_count : length inv ≡ n = back.1.same_length ∙ node.location_count in
    let inner = composed p S in
    let inner_count : length inner ≡ n = length-composed p S ∙ node.facility_count in
    let inner_bijection : IsBijection inner = IsBijection-composed p S done.bijection node.facilities (done_size ∙ sym node.facility_count) in
    let Q = composed inv inner in
    let Q_count : length Q ≡ n = length-composed inv inner ∙ inner_count in
    let Q_bijection : IsBijection Q = IsBijection-composed inv inner inv_bijection inner_bijection (inv_count ∙ sym inner_count) in
    let Q_is : (s : ℕ) → s < n → get_or Q s 0 ≡ get_or inv (get_or p (get_or S s 0) 0) 0 =
    λ s h.
    get_or-composed inv inner s (omega (arith, inner_count))
    ∙ ap (λ k. get_or inv k 0) (get_or-composed p S s (omega (arith, node.facility_count))) in
    let Q_below : (s : ℕ) → s < n → get_or Q s 0 < n = λ s h. omega (arith, Q_count, Q_bijection.within s (omega (arith, Q_count))) in
    let S_below : (s : ℕ) → s < n → get_or S s 0 < n =
    λ s h. omega (arith, node.facility_count, node.facilities.within s (omega (arith, node.facility_count))) in
    let p_below : (i : ℕ) → i < n → get_or p i 0 < n = λ i h. omega (arith, done_size, done.bijection.within i (omega (arith, done_size))) in
    let reaches : (s : ℕ) → s < n → get_or T (get_or Q s 0) 0 ≡ get_or p (get_or S s 0) 0 =
    λ s h.
    ap (λ k. get_or T k 0) (Q_is s h)
    ∙ back.1.back (get_or p (get_or S s 0) 0) (omega (arith, node.location_count, p_below (get_or S s 0) (S_below s h))) in
    let stays : (s : ℕ) → s < d → get_or Q s 0 ≡ s =
    λ s h.
    Q_is s (omega (arith, counts))
    ∙ ap (λ i. get_or inv (get_or p i 0) 0) (get_or_append_left x.facilities (free_facilities x) 0 s h)
    ∙ ap (λ k. get_or inv k 0) (done.agrees s h ∙ sym (get_or_append_left x.places (free_locations x) 0 s (omega (arith, node.paired))))
    ∙ back.1.there s (omega (arith, node.location_count, counts)) in
    let later : (r : ℕ) → r < m → d ≤ get_or Q (d + r) 0 =
    λ r h.
    elim (cases_lt (get_or Q (d + r) 0) d) [
      | inl less ↦
          let fixed : get_or Q (get_or Q (d + r) 0) 0 ≡ get_or Q (d + r) 0 = stays (get_or Q (d + r) 0) less in
          let same : get_or Q (d + r) 0 ≡ d + r =
          Q_bijection.distinct (get_or Q (d + r) 0) (d + r) (omega (arith, Q_count, counts)) (omega (arith, Q_count, counts)) fixed in
          omega (arith, same)
      | inr more ↦ more
    ] in
    let c : ℕ → ℕ = λ r. get_or Q (d + r) 0 - d in
    let c_is : (r : ℕ) → r < m → d + c r ≡ get_or Q (d + r) 0 = λ r h. omega (arith, later r h) in
    let seat = list_of c m in
    let seat_count : length seat ≡ m = length-list_of c m in (
      seat,
      record {
        bijection = IsBijection-list_of c m (λ r h. omega (arith, c_is r h, Q_below (d + r) (omega (arith, counts)), counts)) (λ r l hr hl e.
            let same : get_or Q (d + r) 0 ≡ get_or Q (d + l) 0 = sym (c_is r hr) ∙ ap (λ k. d + k) e ∙ c_is l hl in
            let shifted : d + r ≡ d + l = Q_bijection.distinct (d + r) (d + l) (omega (arith, Q_count, counts)) (omega (arith, Q_count, counts)) same in
            omega arith);
        rows = seat_count;
        columns = seat_count ∙ sym column_count;
        stands = λ r h.
            let below : r < m = omega (arith, seat_count) in
            ap (λ i. get_or p i 0) (sym (later_at x.facilities (free_facilities x) d r refl))
            ∙ sym (reaches (d + r) (omega (arith, counts)))
            ∙ ap (λ k. get_or T k 0) (sym (c_is r below))
            ∙ later_at x.places (free_locations x) d (c r) node.paired
            ∙ ap (λ k. get_or (free_locations x) k 0) (sym (get_or-list_of c m r below));
      },
    )

-- equal facilities at equal locations cost the same
same_cell : (I : Problem) (i j k l i' j' k' l' : ℕ) → i ≡ i' → j ≡ j' → k ≡ k' → l ≡ l' → entry I.size I.a i j *ℤ entry I.size I.b k l ≡ entry I.size I.a i' j' *ℤ entry I.size I.b k' l'
same_cell I i j k l i' j' k' l' a b c d =
    ap₂ ◌*ℤ◌ (ap₂ (entry I.size I.a) a b) (ap₂ (entry I.size I.b) c d)

-- what a facility costs with the others but itself is one pairing of the two lists of its entry
record Rest (I : Problem) (x : Placement) (p seat : List ℕ) (r : ℕ) (least : ℤ) : Type 0 where
  below : least ≤ℤ (sum_to (λ l. pair_cost I p (get_or (free_facilities x) r 0) (get_or (free_facilities x) l 0)) (length seat) -ℤ pair_cost I p (get_or (free_facilities x) r 0) (get_or (free_facilities x) r 0))

rest-le : (I : Problem) (x : Placement) (p seat : List ℕ) (r : ℕ) (least : ℤ) → IsSeating x p seat → r < length seat → IsLeastProduct (others I.size I.a (free_facilities x) r) (others I.size I.b (free_locations x) (get_or seat r 0)) least → Rest I x p seat r least
rest-le I x p seat r least s h is =
    let m = length seat in
    let m' = m - 1 in
    let m_is : suc m' ≡ m = omega arith in
    let F = (free_facilities x) in
    let L = (free_locations x) in
    let c = get_or seat r 0 in
    let i = get_or F r 0 in
    let xs = others I.size I.a F r in
    let ys = others I.size I.b L c in
    let c_below : c < m = s.bijection.within r h in
    let xs_count : length xs ≡ m' = omega (arith, length-map (remove F r) (entry I.size I.a i), length-remove F r (omega (arith, s.rows)), s.rows) in
    let ys_count : length ys ≡ m' = omega (arith, length-map (remove L c) (entry I.size I.b (get_or L c 0)), length-remove L c (omega (arith, s.columns)), s.columns) in
    let seat_of : ℕ → ℕ = λ j. get_or seat (skip r j) 0 in
    let inside : (j : ℕ) → j < m' → skip r j < m = λ j hj. omega (arith, skip-within r j m' hj) in
    let apart : (j : ℕ) → j < m' → seat_of j ≢ c =
    λ j hj e. skip-other r j (s.bijection.distinct (skip r j) r (inside j hj) h e) in
    let f : ℕ → ℕ = λ j. unskip c (seat_of j) in
    let f_is : (j : ℕ) → j < m' → skip c (f j) ≡ seat_of j = λ j hj. skip-unskip c (seat_of j) (apart j hj) in
    let f_below : (j : ℕ) → j < m' → f j < m' =
    λ j hj.
    let at_most : seat_of j < m = s.bijection.within (skip r j) (inside j hj) in
    unskip-within c (seat_of j) m' (omega arith) (omega arith) (apart j hj) in
    let P = list_of f m' in
    let pairs : Pairs xs ys P = record {
      bijection = IsBijection-list_of f m' f_below (λ j l hj hl e.
          skip-injective r j l (s.bijection.distinct (skip r j) (skip r l) (inside j hj) (inside l hl) (sym (f_is j hj) ∙ ap (skip c) e ∙ f_is l hl)));
      left = length-list_of f m' ∙ sym xs_count;
      right = length-list_of f m' ∙ sym ys_count;
    } in
    let g : ℕ → ℤ = λ l. pair_cost I p i (get_or F l 0) in
    let term : (j : ℕ) → j < m' → product_at xs ys P j ≡ g (skip r j) =
    λ j hj.
    ap₂ ◌*ℤ◌
    (get_or-map_remove (entry I.size I.a i) F r j (omega (arith, s.rows)) (omega (arith, s.rows)))
    (ap (λ k. get_or ys k (pos 0)) (get_or-list_of f m' j hj)
    ∙ get_or-map_remove (entry I.size I.b (get_or L c 0)) L c (f j) (omega (arith, s.columns)) (omega (arith, s.columns, f_below j hj))
    ∙ ap₂ (entry I.size I.b) (sym (s.stands r h)) (ap (λ k. get_or L k 0) (f_is j hj) ∙ sym (s.stands (skip r j) (inside j hj)))) in
    let sums : paired_sum xs ys P ≡ sum_to (λ j. g (skip r j)) m' =
    ap (sum_to (product_at xs ys P)) xs_count ∙ sum_to-same (product_at xs ys P) (λ j. g (skip r j)) m' term in
    let whole : sum_to g m ≡ g r +ℤ sum_to (λ j. g (skip r j)) m' = ap (sum_to g) (sym m_is) ∙ sum_to-apart g r m' (omega arith) in
    let smallest : least ≤ℤ paired_sum xs ys P = is.least P pairs in
    record { below = omega (arith, ints, sums, whole, smallest) }

-- what the free facility of number r costs beside the placed ones among themselves
part : Problem → Placement → List ℕ → ℕ → ℤ
part I x p r =
    let i = get_or (free_facilities x) r 0 in
    sum_to (cost_with I x i (get_or p i 0)) (length x.facilities) +ℤ sum_to (λ l. pair_cost I p i (get_or (free_facilities x) l 0)) (length (free_facilities x))

-- the entry at its seat is at most that
entry-le : (I : Problem) (x : Placement) (p seat : List ℕ) (r : ℕ) (value : ℤ) → IsSeating x p seat → r < length seat → IsReducedEntry I x r (get_or seat r 0) value → value ≤ℤ part I x p r
unfolding part
entry-le I x p seat r value s h e =
    let i = get_or (free_facilities x) r 0 in
    let rest = (rest-le I x p seat r e.least s h e.is_least).below in
    let sum : value ≡ linear_cost I x i (get_or p i 0) +ℤ e.least =
    e.sum ∙ ap (λ k. linear_cost I x i k +ℤ e.least) (sym (s.stands r h)) in
    let count = ap (sum_to (λ l. pair_cost I p i (get_or (free_facilities x) l 0))) s.rows in
    omega (arith, ints, rest, sum, count)

-- a cost is what the placed facilities cost among themselves and the parts of the free ones
cost_in_parts : (I : Problem) (x : Placement) (p : List ℕ) → Halves I.size x → Completes x p → cost_of I p ≡ fixed_cost_of I x +ℤ sum_to (part I x p) (length (free_facilities x))
unfolding part
cost_in_parts I x p node done =
    let n = I.size in
    let d = length x.facilities in
    let m = length (free_facilities x) in
    let S = x.facilities ++ (free_facilities x) in
    let at : ℕ → ℕ = λ s. get_or S s 0 in
    let counts : d + m ≡ n = sym (length-append x.facilities (free_facilities x)) ∙ node.facility_count in
    let f : ℕ → ℕ → ℤ = λ s t. pair_cost I p (at s) (at t) in
    let in_order : (g : ℕ → ℤ) → sum_to (λ s. g (at s)) n ≡ sum_to g n =
    λ g. ap (sum_to (λ s. g (at s))) (sym node.facility_count) ∙ sum_to-in_order g S node.facilities ∙ ap (sum_to g) node.facility_count in
    let rows : sum_to (λ s. sum_to (f s) n) n ≡ sum_to (λ s. row_cost I p (at s)) n =
    sum_to-same (λ s. sum_to (f s) n) (λ s. row_cost I p (at s)) n (λ s h. in_order (pair_cost I p (at s))) in
    let whole : sum_to (λ s. sum_to (f s) (d + m)) (d + m) ≡ cost_of I p =
    ap (λ k. sum_to (λ s. sum_to (f s) k) k) counts ∙ rows ∙ in_order (row_cost I p) in
    let early : (s : ℕ) → s < d → at s ≡ get_or x.facilities s 0 = λ s h. get_or_append_left x.facilities (free_facilities x) 0 s h in
    let seated : (s : ℕ) → s < d → get_or p (at s) 0 ≡ get_or x.places s 0 = λ s h. ap (λ i. get_or p i 0) (early s h) ∙ done.agrees s h in
    let late : (r : ℕ) → at (d + r) ≡ get_or (free_facilities x) r 0 = λ r. later_at x.facilities (free_facilities x) d r refl in
    let late_seat : (r : ℕ) → get_or p (at (d + r)) 0 ≡ get_or p (get_or (free_facilities x) r 0) 0 = λ r. ap (λ i. get_or p i 0) (late r) in
    let fixed : sum_to (λ s. sum_to (f s) d) d ≡ fixed_cost_of I x =
    sum_to-same (λ s. sum_to (f s) d) (λ s. sum_to (λ t. entry n I.a (get_or x.facilities s 0) (get_or x.facilities t 0) *ℤ entry n I.b (get_or x.places s 0) (get_or x.places t 0)) d) d (λ s hs.
    sum_to-same (f s) (λ t. entry n I.a (get_or x.facilities s 0) (get_or x.facilities t 0) *ℤ entry n I.b (get_or x.places s 0) (get_or x.places t 0)) d (λ t ht.
    same_cell I (at s) (at t) (get_or p (at s) 0) (get_or p (at t) 0) (get_or x.facilities s 0) (get_or x.facilities t 0) (get_or x.places s 0) (get_or x.places t 0)
    (early s hs) (early t ht) (seated s hs) (seated t ht))) in
    let row : (r : ℕ) → r < m → sum_to (λ t. f (d + r) t +ℤ f t (d + r)) d +ℤ sum_to (λ l. f (d + r) (d + l)) m ≡ part I x p r =
    λ r hr.
    let i = get_or (free_facilities x) r 0 in
    let k = get_or p i 0 in
    ap₂ ◌+ℤ◌
    (sum_to-same (λ t. f (d + r) t +ℤ f t (d + r)) (cost_with I x i k) d (λ t ht.
    ap₂ ◌+ℤ◌
    (same_cell I (at (d + r)) (at t) (get_or p (at (d + r)) 0) (get_or p (at t) 0) i (get_or x.facilities t 0) k (get_or x.places t 0)
    (late r) (early t ht) (late_seat r) (seated t ht))
    (same_cell I (at t) (at (d + r)) (get_or p (at t) 0) (get_or p (at (d + r)) 0) (get_or x.facilities t 0) i (get_or x.places t 0) k
    (early t ht) (late r) (seated t ht) (late_seat r))))
    (sum_to-same (λ l. f (d + r) (d + l)) (λ l. pair_cost I p i (get_or (free_facilities x) l 0)) m (λ l hl.
    same_cell I (at (d + r)) (at (d + l)) (get_or p (at (d + r)) 0) (get_or p (at (d + l)) 0) i (get_or (free_facilities x) l 0) k (get_or p (get_or (free_facilities x) l 0) 0)
    (late r) (late l) (late_seat r) (late_seat l))) in
    sym whole
    ∙ sum_to-quarters f d m
    ∙ ap₂ ◌+ℤ◌ fixed (sum_to-same (λ r. sum_to (λ t. f (d + r) t +ℤ f t (d + r)) d +ℤ sum_to (λ l. f (d + r) (d + l)) m) (part I x p) m row)

-- where the free facilities stand, and that the node's cost and what the reduced matrix says there are no more than the cost
pub record IsSeated (I : Problem) (x : Placement) (M : Square) (p : List ℕ) : Type 0 where
  pub seat : List ℕ
  pub seating : IsSeating x p seat
  pub below : (fixed_cost_of I x +ℤ assignment_cost M seat) ≤ℤ cost_of I p

-- a permutation that completes a node assigns the free facilities to the free locations, and costs no less than the
-- node's fixed cost and that assignment of the reduced matrix
pub IsSeated-from_completes : (I : Problem) (x : Placement) (M : Square) (p : List ℕ) → IsPlacement x → I.size ≡ x.size → IsReduced I x M → Completes x p → IsSeated I x M p
IsSeated-from_completes I x M p placement same reduced done =
    let node : Halves I.size x = Halves-from_placement I.size x placement same in
    let found = IsSeating-from_completes I.size x p node done in
    let seat = found.0 in
    let s = found.1 in
    let size : M.size ≡ length seat = reduced.size ∙ sym s.rows in
    let below : assignment_cost M seat ≤ℤ sum_to (part I x p) M.size =
    sum_to-monotone (assigned M seat) (part I x p) M.size (λ r h.
    entry-le I x p seat r (entry_of M r (get_or seat r 0)) s (omega (arith, size))
    (reduced.entries r (get_or seat r 0) h (omega (arith, size, s.bijection.within r (omega (arith, size)))))) in
    let rows = ap (sum_to (part I x p)) reduced.size in
    let cost = cost_in_parts I x p node done in
    record { seat = seat; seating = s; below = omega (arith, ints, below, rows, cost) }

-- where duals fit the reduced matrix, no permutation that completes the node costs less than fixed cost and duals
pub fixed_and_duals-le : (I : Problem) (x : Placement) (M : Square) (u v : List ℤ) (p : List ℕ) → IsPlacement x → I.size ≡ x.size → IsReduced I x M → DualsFit M u v → Completes x p → (fixed_cost_of I x +ℤ dual_value u v) ≤ℤ cost_of I p
fixed_and_duals-le I x M u v p placement same reduced fit done =
    let seated = IsSeated-from_completes I x M p placement same reduced done in
    let s = seated.seating in
    let size : M.size ≡ length seated.seat = reduced.size ∙ sym s.rows in
    let dual = dual_value-le M u v seated.seat fit (record { bijection = s.bijection; same_size = sym size }) in
    let below = seated.below in
    omega (arith, ints, below, dual)
