-- What keeps the form of a node: its start, a line, a child; and the bound that it gives.
use Rattle.std.proofs.Common.{◌≡◌, ℕ, suc, ◌+◌, ◌<◌, cond, true, false, refl, sym, ◌∙◌, ap, ap₂, subst, arith, nat_eq, List, length, get_or, inl, inr}
use Rattle.std.specs.Prelude.{ℤ, pos, ◌+ℤ◌, ◌-ℤ◌, ◌*ℤ◌, ◌≤ℤ◌, remove, nat_lt}
use Rattle.std.proofs.lemmas.Int.{ints}
use Rattle.std.proofs.lemmas.Bool.{cases_eq, cases_lt, eq-eqb, ne_eqb, cond-true, cond-false, lt-ltb, le-ltb}
use Rattle.qap_cost.specs.Sum.{sum_to}
use Rattle.qap_cost.specs.Bijection.{IsBijection}
use Rattle.qap_cost.specs.Instance.{Problem}
use Rattle.qap_cost.specs.Objective.{cost_of}
use Rattle.qap_cost.specs.Placement.{Placement, IsPlacement, Completes, free_facilities, free_locations, fixed_cost_of}
use Rattle.qap_cost.proofs.Bijections.{sum_to-in_order}
use Rattle.qap_cost.proofs.Nodes.{parent_of}
use Rattle.qap_cost.proofs.Placements.{IsPlacement-placing}
use Rattle.qap_cost.proofs.Sums.{sum_to-same, sum_to-add, sum_to-scale, sum_to-monotone, *ℤ-+ℤ}
use Rattle.gilmore_lawler.proofs.Skips.{skip, skip-before, skip-after, skip-other, skip-within, sum_to-apart, length-remove, get_or-remove}
use Rattle.pair_duals.specs.CostOfPair.{cost_of_pair}
use Rattle.pair_duals.specs.PairDuals.{Duals, Fit, alpha_of, beta_of, residual}
use Rattle.pair_duals.specs.Reduced.{Form, at, count_of, AreNumbers, AreUnder, IsFormOf, IsNonNegative, IsStart, IsLine, IsChild, dual_entry, left_of_pair, past, sum_but, sum_of_pairs}
use Rattle.pair_duals.specs.Seats.{Seats, child_at}
use Rattle.pair_duals.proofs.CostSplits.{cost_of_pair-both, cost_split, linear_at, linear_at-is, pair_at, pair_at-is}
use Rattle.pair_duals.proofs.PairSums.{sum_of_pairs-same, sum_of_pairs-minus, sum_of_pairs-scale, sum_of_pairs-least, sum_of_pairs-apart, sum_to-but, sum_to-nonnegative}
use Rattle.pair_duals.proofs.Seatings.{facilities_of, locations_of, same_count, one_of_each, Seats-completed, facilities_left, locations_left, SeatsFollow-child}

-- ---- a node's own form

-- the duals of row r, at its seat, for row t and its seat
seated_duals : Duals → List ℕ → List ℕ → List ℕ → ℕ → ℕ → ℤ
seated_duals D rows columns seat r t =
    let i = get_or rows r 0 in
    let k = get_or columns (get_or seat r 0) 0 in
    alpha_of D i k (get_or rows t 0) +ℤ beta_of D i k (get_or columns (get_or seat t 0) 0)

left_is : (I : Problem) (D : Duals) (y : Placement) (rows columns seat : List ℕ) (r t : ℕ) → AreNumbers D y rows columns → r < length rows → t < length rows → get_or seat r 0 < length columns → get_or seat t 0 < length columns
    → left_of_pair I D rows columns seat r t ≡ pos D.scale *ℤ pair_at I y seat r t -ℤ (seated_duals D rows columns seat r t +ℤ seated_duals D rows columns seat t r)
unfolding seated_duals
left_is I D y rows columns seat r t n hr ht hk hl =
    let cost : cost_of_pair I (get_or D.facilities (get_or rows r 0) 0) (get_or D.locations (get_or columns (get_or seat r 0) 0) 0) (get_or D.facilities (get_or rows t 0) 0) (get_or D.locations (get_or columns (get_or seat t 0) 0) 0) ≡ pair_at I y seat r t =
    ap₂ (λ i j. cost_of_pair I i (get_or D.locations (get_or columns (get_or seat r 0) 0) 0) j (get_or D.locations (get_or columns (get_or seat t 0) 0) 0)) (n.facilities r hr) (n.facilities t ht)
    ∙ ap₂ (λ k l. cost_of_pair I (get_or (free_facilities y) r 0) k (get_or (free_facilities y) t 0) l) (n.locations (get_or seat r 0) hk) (n.locations (get_or seat t 0) hl)
    ∙ sym (pair_at-is I y seat r t) in
    ap (λ q. pos D.scale *ℤ q -ℤ (seated_duals D rows columns seat r t +ℤ seated_duals D rows columns seat t r)) cost

-- the sum of what is in other columns is that of what is in the columns of the other rows
sum_to-seats : (f : ℕ → ℤ) (seat : List ℕ) (r : ℕ) → IsBijection seat → r < length seat → sum_but (get_or seat r 0) f (length seat) ≡ sum_but r (λ t. f (get_or seat t 0)) (length seat)
sum_to-seats f seat r b h =
    let c = get_or seat r 0 in
    let g : ℕ → ℤ = λ d. cond (nat_eq d c) (pos 0) (f d) in
    sym (sum_to-in_order g seat b)
    ∙ sum_to-same (λ t. g (get_or seat t 0)) (λ t. cond (nat_eq t r) (pos 0) (f (get_or seat t 0))) (length seat) (λ t below.
    elim (cases_eq t r) [
      | inl e ↦ cond-true (nat_eq (get_or seat t 0) c) (pos 0) (f (get_or seat t 0)) (eq-eqb (get_or seat t 0) c (ap (λ k. get_or seat k 0) e)) ∙ sym (cond-true (nat_eq t r) (pos 0) (f (get_or seat t 0)) (eq-eqb t r e))
      | inr n ↦ cond-false (nat_eq (get_or seat t 0) c) (pos 0) (f (get_or seat t 0)) (ne_eqb (get_or seat t 0) c (λ e. n (b.distinct t r below h e))) ∙ sym (cond-false (nat_eq t r) (pos 0) (f (get_or seat t 0)) (ne_eqb t r n))
    ])

-- an entry at its seat
start_entry : (I : Problem) (D : Duals) (y : Placement) (rows columns seat : List ℕ) (r : ℕ) → IsBijection seat → length seat ≡ length rows → length columns ≡ length rows → r < length rows
    → dual_entry I D y rows columns r (get_or seat r 0) ≡ pos D.scale *ℤ linear_at I y seat r +ℤ sum_but r (seated_duals D rows columns seat r) (length rows)
unfolding seated_duals
start_entry I D y rows columns seat r b long wide h =
    let i = get_or rows r 0 in
    let k = get_or columns (get_or seat r 0) 0 in
    let m = length rows in
    let a : ℕ → ℤ = λ t. alpha_of D i k (get_or rows t 0) in
    let v : ℕ → ℤ = λ d. beta_of D i k (get_or columns d 0) in
    let moved : sum_but (get_or seat r 0) v (length columns) ≡ sum_but r (λ t. v (get_or seat t 0)) m =
    ap (sum_but (get_or seat r 0) v) (wide ∙ sym long) ∙ sum_to-seats v seat r b (omega (arith, long)) ∙ ap (sum_but r (λ t. v (get_or seat t 0))) long in
    let term : (t : ℕ) → t < m → cond (nat_eq t r) (pos 0) (a t +ℤ v (get_or seat t 0)) ≡ cond (nat_eq t r) (pos 0) (a t) +ℤ cond (nat_eq t r) (pos 0) (v (get_or seat t 0)) =
    λ t below.
    elim (nat_eq t r) as (λ e. cond e (pos 0) (a t +ℤ v (get_or seat t 0)) ≡ cond e (pos 0) (a t) +ℤ cond e (pos 0) (v (get_or seat t 0))) [ true ↦ refl | false ↦ refl ] in
    let both = sum_to-same (λ t. cond (nat_eq t r) (pos 0) (a t +ℤ v (get_or seat t 0))) (λ t. cond (nat_eq t r) (pos 0) (a t) +ℤ cond (nat_eq t r) (pos 0) (v (get_or seat t 0))) m term
    ∙ sum_to-add (λ t. cond (nat_eq t r) (pos 0) (a t)) (λ t. cond (nat_eq t r) (pos 0) (v (get_or seat t 0))) m in
    let linear = ap (λ z. pos D.scale *ℤ z) (linear_at-is I y seat r) in
    omega (arith, ints, moved, both, linear)

-- what it takes of a node that its seats fit the rows and the columns
record Fitting (y : Placement) (rows columns seat : List ℕ) : Type 0 where
  long : length seat ≡ length rows
  wide : length columns ≡ length rows
  seated : (r : ℕ) → r < length rows → get_or seat r 0 < length columns

Fitting-seats : (D : Duals) (y : Placement) (rows columns p seat : List ℕ) → IsPlacement y → AreNumbers D y rows columns → Seats y p seat → Fitting y rows columns seat
Fitting-seats D y rows columns p seat is n s =
    let wide : length columns ≡ length rows = omega (arith, n.row_count, n.column_count, same_count y is) in
    record {
      long = s.count ∙ sym n.row_count;
      wide = wide;
      seated = λ r below. omega (arith, wide, s.count, n.row_count, s.bijection.within r (omega (arith, s.count, n.row_count)));
    }

-- where the duals fit, no pair of a completion has less than nothing left
left-least : (I : Problem) (D : Duals) (y : Placement) (rows columns p seat : List ℕ) → IsPlacement y → Fit I D → AreNumbers D y rows columns → Seats y p seat → pos 0 ≤ℤ sum_of_pairs (left_of_pair I D rows columns seat) (length rows)
left-least I D y rows columns p seat is fit n s =
    let f = Fitting-seats D y rows columns p seat is n s in
    sum_of_pairs-least (left_of_pair I D rows columns seat) (length rows) (λ r t ht hr.
    let below : t < length rows = omega arith in
    let here = f.seated r hr in
    let there = f.seated t below in
    fit.below (get_or rows r 0) (get_or columns (get_or seat r 0) 0) (get_or rows t 0) (get_or columns (get_or seat t 0) 0)
    (n.rows_within r hr) (n.columns_within (get_or seat r 0) here) (n.rows_within t below) (n.columns_within (get_or seat t 0) there)
    (λ e.
    let same : r ≡ t = one_of_each y.size y.facilities (free_facilities y) r t (facilities_of y is) (omega (arith, n.row_count)) (omega (arith, n.row_count)) (sym (n.facilities r hr) ∙ ap (λ i. get_or D.facilities i 0) e ∙ n.facilities t below) in
    omega arith)
    (λ e.
    let one : get_or seat r 0 ≡ get_or seat t 0 =
    one_of_each y.size y.places (free_locations y) (get_or seat r 0) (get_or seat t 0) (locations_of y is) (omega (arith, n.column_count)) (omega (arith, n.column_count)) (sym (n.locations (get_or seat r 0) here) ∙ ap (λ i. get_or D.locations i 0) e ∙ n.locations (get_or seat t 0) there) in
    let same : r ≡ t = s.bijection.distinct r t (omega (arith, f.long)) (omega (arith, f.long)) one in
    omega arith))

-- the cost of a completion by the duals alone
pub start_identity : (I : Problem) (D : Duals) (y : Placement) (rows columns p seat : List ℕ) → IsPlacement y → I.size ≡ y.size → AreNumbers D y rows columns → Completes y p → Seats y p seat
    → pos D.scale *ℤ cost_of I p ≡ (pos D.scale *ℤ fixed_cost_of I y +ℤ sum_to (λ r. dual_entry I D y rows columns r (get_or seat r 0)) (length rows)) +ℤ sum_of_pairs (left_of_pair I D rows columns seat) (length rows)
start_identity I D y rows columns p seat is size n done s =
    let m = length rows in
    let s' = pos D.scale in
    let fit = Fitting-seats D y rows columns p seat is n s in
    let X = linear_at I y seat in
    let P = pair_at I y seat in
    let φ = seated_duals D rows columns seat in
    let cost = cost_split m I y p seat is size (sym n.row_count) done s in
    let scaled : s' *ℤ cost_of I p ≡ (s' *ℤ fixed_cost_of I y +ℤ s' *ℤ sum_to X m) +ℤ s' *ℤ sum_of_pairs P m =
    ap (λ z. s' *ℤ z) cost ∙ *ℤ-+ℤ s' (fixed_cost_of I y +ℤ sum_to X m) (sum_of_pairs P m) ∙ ap (λ z. z +ℤ s' *ℤ sum_of_pairs P m) (*ℤ-+ℤ s' (fixed_cost_of I y) (sum_to X m)) in
    let own : sum_to (λ r. dual_entry I D y rows columns r (get_or seat r 0)) m ≡ sum_to (λ r. s' *ℤ X r +ℤ sum_but r (φ r) m) m =
    sum_to-same (λ r. dual_entry I D y rows columns r (get_or seat r 0)) (λ r. s' *ℤ X r +ℤ sum_but r (φ r) m) m (λ r below.
    start_entry I D y rows columns seat r s.bijection fit.long fit.wide below) in
    let apart = sum_to-add (λ r. s' *ℤ X r) (λ r. sum_but r (φ r) m) m in
    let linear = sum_to-scale s' X m in
    let duals = sum_to-but φ m in
    let left : sum_of_pairs (left_of_pair I D rows columns seat) m ≡ sum_of_pairs (λ r t. s' *ℤ P r t -ℤ (φ r t +ℤ φ t r)) m =
    sum_of_pairs-same (left_of_pair I D rows columns seat) (λ r t. s' *ℤ P r t -ℤ (φ r t +ℤ φ t r)) m (λ r t ht hr.
    left_is I D y rows columns seat r t n hr (omega arith) (fit.seated r hr) (fit.seated t (omega arith))) in
    let minus = sum_of_pairs-minus (λ r t. s' *ℤ P r t) (λ r t. φ r t +ℤ φ t r) m in
    let scale = sum_of_pairs-scale s' P m in
    omega (arith, ints, scaled, own, apart, linear, duals, left, minus, scale)

-- the form by the duals alone is a form of the node
pub IsFormOf-start : (I : Problem) (D : Duals) (y : Placement) (R : Form) → IsPlacement y → I.size ≡ y.size → IsStart I D y R → IsFormOf I D y R
IsFormOf-start I D y R is size start = record {
  numbers = start.numbers;
  identity = λ p seat done s.
      let m = length R.rows in
      let n = start.numbers in
      let fit = Fitting-seats D y R.rows R.columns p seat is n s in
      let whole = start_identity I D y R.rows R.columns p seat is size n done s in
      let rows : sum_to (λ r. at R r (get_or seat r 0)) m ≡ sum_to (λ r. dual_entry I D y R.rows R.columns r (get_or seat r 0)) m =
      sum_to-same (λ r. at R r (get_or seat r 0)) (λ r. dual_entry I D y R.rows R.columns r (get_or seat r 0)) m (λ r below.
      start.entries r (get_or seat r 0) below (omega (arith, fit.seated r below, fit.wide))) in
      let value = start.value in
      omega (arith, ints, whole, rows, value);
}

-- what the duals alone say of a node is no more than a completion costs
pub start-le : (I : Problem) (D : Duals) (y : Placement) (rows columns p seat : List ℕ) → IsPlacement y → I.size ≡ y.size → Fit I D → AreNumbers D y rows columns → Completes y p → Seats y p seat
    → (pos D.scale *ℤ fixed_cost_of I y +ℤ sum_to (λ r. dual_entry I D y rows columns r (get_or seat r 0)) (length rows)) ≤ℤ (pos D.scale *ℤ cost_of I p)
start-le I D y rows columns p seat is size fit n done s =
    let whole = start_identity I D y rows columns p seat is size n done s in
    let left = left-least I D y rows columns p seat is fit n s in
    omega (arith, ints, whole, left)

-- ---- a line

-- a line leads from a form of the node to another
pub IsFormOf-line : (I : Problem) (D : Duals) (y : Placement) (old new : Form) (u v : List ℤ) → IsPlacement y → IsFormOf I D y old → IsLine old new u v → IsFormOf I D y new
IsFormOf-line I D y old new u v is h line = record {
  numbers = subst (λ (rows : List ℕ). AreNumbers D y rows new.columns) (sym line.rows) (subst (AreNumbers D y old.rows) (sym line.columns) h.numbers);
  identity = λ p seat done s.
      let m = length old.rows in
      let fit = Fitting-seats D y old.rows old.columns p seat is h.numbers s in
      let U : ℕ → ℤ = λ r. get_or u r (pos 0) in
      let V : ℕ → ℤ = λ c. get_or v c (pos 0) in
      let before : pos D.scale *ℤ cost_of I p ≡ (old.value +ℤ sum_to (λ r. at old r (get_or seat r 0)) m) +ℤ sum_of_pairs (left_of_pair I D old.rows old.columns seat) m = h.identity p seat done s in
      let count : length new.rows ≡ m = ap length line.rows in
      let entries : sum_to (λ r. at old r (get_or seat r 0)) m ≡ sum_to (λ r. at new r (get_or seat r 0) +ℤ (U r +ℤ V (get_or seat r 0))) m =
      sum_to-same (λ r. at old r (get_or seat r 0)) (λ r. at new r (get_or seat r 0) +ℤ (U r +ℤ V (get_or seat r 0))) m (λ r below.
      let is = line.entries r (get_or seat r 0) below (omega (arith, fit.seated r below, fit.wide)) in
      omega (arith, ints, is)) in
      let apart = sum_to-add (λ r. at new r (get_or seat r 0)) (λ r. U r +ℤ V (get_or seat r 0)) m in
      let both = sum_to-add U (λ r. V (get_or seat r 0)) m in
      let moved : sum_to (λ r. V (get_or seat r 0)) m ≡ sum_to V m =
      ap (sum_to (λ r. V (get_or seat r 0))) (sym fit.long) ∙ sum_to-in_order V seat s.bijection ∙ ap (sum_to V) fit.long in
      let rows : sum_to (λ r. at new r (get_or seat r 0)) (length new.rows) ≡ sum_to (λ r. at new r (get_or seat r 0)) m = ap (sum_to (λ r. at new r (get_or seat r 0))) count in
      let left : sum_of_pairs (left_of_pair I D new.rows new.columns seat) (length new.rows) ≡ sum_of_pairs (left_of_pair I D old.rows old.columns seat) m =
      ap₂ (λ (rows columns : List ℕ). sum_of_pairs (left_of_pair I D rows columns seat) (length rows)) line.rows line.columns in
      let value = line.value in
      omega (arith, ints, before, entries, apart, both, moved, rows, left, value);
}

-- ---- a child

-- both ways of counting past a number are the same
pub past-skip : (h k : ℕ) → past h k ≡ skip h k
past-skip h k =
    elim (cases_lt k h) [
      | inl less ↦ cond-true (nat_lt k h) k (k + 1) (lt-ltb k h less) ∙ sym (skip-before h k less)
      | inr more ↦ cond-false (nat_lt k h) k (k + 1) (le-ltb k h more) ∙ omega (arith, skip-after h k more)
    ]

-- what the duals leave of a pair is the same in either order
pub residual-both : (I : Problem) (D : Duals) (i k j l : ℕ) → residual I D i k j l ≡ residual I D j l i k
residual-both I D i k j l =
    let cost = ap (λ q. pos D.scale *ℤ q) (cost_of_pair-both I (get_or D.facilities i 0) (get_or D.locations k 0) (get_or D.facilities j 0) (get_or D.locations l 0)) in
    omega (arith, ints, cost)

-- the numbers of what is left
pub AreNumbers-child : (D : Duals) (y : Placement) (rows columns : List ℕ) (h g : ℕ) → IsPlacement y → h < length rows → g < length columns → AreNumbers D y rows columns → AreNumbers D (child_at y h g) (remove rows h) (remove columns g)
AreNumbers-child D y rows columns h g is hh hg n =
    let F = free_facilities y in
    let G = free_locations y in
    let left_rows = facilities_left y h g is (omega (arith, n.row_count)) in
    let left_columns = locations_left y h g is (omega (arith, n.column_count)) in
    let row_count = length-remove rows h hh in
    let column_count = length-remove columns g hg in
    let inside : (r : ℕ) → r < length (remove rows h) → skip h r < length rows = λ r below. omega (arith, row_count, skip-within h r (length (remove rows h)) below) in
    let within : (c : ℕ) → c < length (remove columns g) → skip g c < length columns = λ c below. omega (arith, column_count, skip-within g c (length (remove columns g)) below) in
    record {
      row_count = omega (arith, n.row_count, row_count, ap length left_rows, length-remove F h (omega (arith, n.row_count)));
      column_count = omega (arith, n.column_count, column_count, ap length left_columns, length-remove G g (omega (arith, n.column_count)));
      rows_within = λ r below. omega (arith, get_or-remove rows h r 0 hh, n.rows_within (skip h r) (inside r below));
      columns_within = λ c below. omega (arith, get_or-remove columns g c 0 hg, n.columns_within (skip g c) (within c below));
      facilities = λ r below.
          ap (λ i. get_or D.facilities i 0) (get_or-remove rows h r 0 hh)
          ∙ n.facilities (skip h r) (inside r below)
          ∙ sym (ap (λ (l : List ℕ). get_or l r 0) left_rows ∙ get_or-remove F h r 0 (omega (arith, n.row_count)));
      locations = λ c below.
          ap (λ i. get_or D.locations i 0) (get_or-remove columns g c 0 hg)
          ∙ n.locations (skip g c) (within c below)
          ∙ sym (ap (λ (l : List ℕ). get_or l c 0) left_columns ∙ get_or-remove G g c 0 (omega (arith, n.column_count)));
    }

-- the form of a child is a form of the child's node
pub IsFormOf-child : (I : Problem) (D : Duals) (y : Placement) (old new : Form) (h g : ℕ) → IsPlacement y → h < length old.rows → g < length old.columns → IsFormOf I D y old → IsChild I D old h g new → IsFormOf I D (child_at y h g) new
IsFormOf-child I D y old new h g is hh hg form c =
    let n = form.numbers in
    let z = child_at y h g in
    let hf : h < length (free_facilities y) = omega (arith, n.row_count) in
    let hl : g < length (free_locations y) = omega (arith, n.column_count) in
    let z_is : IsPlacement z = IsPlacement-placing y (get_or (free_facilities y) h 0) (get_or (free_locations y) g 0) is ((facilities_of y is).each h hf) ((locations_of y is).each g hl) in
    let numbers : AreNumbers D z new.rows new.columns =
    subst (λ (rows : List ℕ). AreNumbers D z rows new.columns) (sym c.rows) (subst (AreNumbers D z (remove old.rows h)) (sym c.columns) (AreNumbers-child D y old.rows old.columns h g is hh hg n)) in
    record {
      numbers = numbers;
      identity = λ p next done t.
          let m = length new.rows in
          let more : suc m ≡ length old.rows = omega (arith, ap length c.rows, length-remove old.rows h hh) in
          let parent = parent_of y (get_or (free_facilities y) h 0) (get_or (free_locations y) g 0) p is done in
          let seated = Seats-completed y p is parent in
          let seat = seated.0 in
          let s = seated.1 in
          let fit = Fitting-seats D y old.rows old.columns p seat is n s in
          let fit' = Fitting-seats D z new.rows new.columns p next z_is numbers t in
          let follow = SeatsFollow-child y h g p seat next is hf hl done s t in
          let E = left_of_pair I D old.rows old.columns seat in
          let R : ℕ → ℤ = λ r. at old r (get_or seat r 0) in
          let before : pos D.scale *ℤ cost_of I p ≡ (old.value +ℤ sum_to R (suc m)) +ℤ sum_of_pairs E (suc m) =
          form.identity p seat parent s ∙ ap (λ k. (old.value +ℤ sum_to R k) +ℤ sum_of_pairs E k) (sym more) in
          let row : (r : ℕ) → get_or new.rows r 0 ≡ get_or old.rows (skip h r) 0 = λ r. ap (λ (l : List ℕ). get_or l r 0) c.rows ∙ get_or-remove old.rows h r 0 hh in
          let column : (r : ℕ) → r < m → get_or new.columns (get_or next r 0) 0 ≡ get_or old.columns (get_or seat (skip h r) 0) 0 =
          λ r below.
          ap (λ (l : List ℕ). get_or l (get_or next r 0) 0) c.columns
          ∙ get_or-remove old.columns g (get_or next r 0) 0 hg
          ∙ ap (λ k. get_or old.columns k 0) (sym (follow.others r (omega (arith, fit'.long)))) in
          let entry_is : (r : ℕ) → r < m → at new r (get_or next r 0) ≡ R (skip h r) +ℤ E (skip h r) h =
          λ r below.
          c.entries r (get_or next r 0) (omega (arith, more)) (omega (arith, more, fit'.long, t.bijection.within r (omega (arith, fit'.long))))
          ∙ ap₂ (λ a b. at old a b +ℤ residual I D (get_or old.rows a 0) (get_or old.columns b 0) (get_or old.rows h 0) (get_or old.columns g 0)) (past-skip h r) (past-skip g (get_or next r 0) ∙ sym (follow.others r (omega (arith, fit'.long))))
          ∙ ap (λ k. R (skip h r) +ℤ residual I D (get_or old.rows (skip h r) 0) (get_or old.columns (get_or seat (skip h r) 0) 0) (get_or old.rows h 0) (get_or old.columns k 0)) (sym follow.here) in
          let rows : sum_to (λ r. at new r (get_or next r 0)) m ≡ sum_to (λ r. R (skip h r) +ℤ E (skip h r) h) m =
          sum_to-same (λ r. at new r (get_or next r 0)) (λ r. R (skip h r) +ℤ E (skip h r) h) m entry_is in
          let split = sum_to-add (λ r. R (skip h r)) (λ r. E (skip h r) h) m in
          let pairs : sum_of_pairs (left_of_pair I D new.rows new.columns next) m ≡ sum_of_pairs (λ r u. E (skip h r) (skip h u)) m =
          sum_of_pairs-same (left_of_pair I D new.rows new.columns next) (λ r u. E (skip h r) (skip h u)) m (λ r u hu hr.
          ap₂ (λ i j. residual I D i (get_or new.columns (get_or next r 0) 0) j (get_or new.columns (get_or next u 0) 0)) (row r) (row u)
          ∙ ap₂ (λ k l. residual I D (get_or old.rows (skip h r) 0) k (get_or old.rows (skip h u) 0) l) (column r hr) (column u (omega arith))) in
          let apart : sum_to R (suc m) ≡ R h +ℤ sum_to (λ r. R (skip h r)) m = sum_to-apart R h m (omega (arith, more)) in
          let pairs_apart : sum_of_pairs E (suc m) ≡ sum_to (λ r. E (skip h r) h) m +ℤ sum_of_pairs (λ r u. E (skip h r) (skip h u)) m =
          sum_of_pairs-apart E h m (omega (arith, more)) (λ r u. residual-both I D (get_or old.rows r 0) (get_or old.columns (get_or seat r 0) 0) (get_or old.rows u 0) (get_or old.columns (get_or seat u 0) 0)) in
          let own : R h ≡ at old h g = ap (at old h) follow.here in
          let value = c.value in
          omega (arith, ints, before, rows, split, pairs, apart, pairs_apart, own, value);
    }

-- ---- the bound

-- a completion costs at least the value and the entries at its seats
pub seats-le : (I : Problem) (D : Duals) (y : Placement) (R : Form) (p seat : List ℕ) → IsPlacement y → Fit I D → IsFormOf I D y R → Completes y p → Seats y p seat → (R.value +ℤ sum_to (λ r. at R r (get_or seat r 0)) (length R.rows)) ≤ℤ (pos D.scale *ℤ cost_of I p)
seats-le I D y R p seat is fit form done s =
    let is_cost = form.identity p seat done s in
    let left = left-least I D y R.rows R.columns p seat is fit form.numbers s in
    omega (arith, ints, is_cost, left)

-- where no entry is less than nothing, it costs at least the value
pub value-le : (I : Problem) (D : Duals) (y : Placement) (R : Form) (p : List ℕ) → IsPlacement y → Fit I D → IsFormOf I D y R → IsNonNegative R → Completes y p → R.value ≤ℤ (pos D.scale *ℤ cost_of I p)
value-le I D y R p is fit form least done =
    let seated = Seats-completed y p is done in
    let seat = seated.0 in
    let n = form.numbers in
    let f = Fitting-seats D y R.rows R.columns p seat is n seated.1 in
    let below = seats-le I D y R p seat is fit form done seated.1 in
    let more = sum_to-nonnegative (λ r. at R r (get_or seat r 0)) (length R.rows) (λ r hr. least.each r (get_or seat r 0) hr (omega (arith, f.wide, f.seated r hr))) in
    omega (arith, ints, below, more)

-- with a number for each row and each column, the two of an entry together no more than it, it costs at least the value and all of them
pub row_duals-le : (I : Problem) (D : Duals) (y : Placement) (R : Form) (u v : List ℤ) (p : List ℕ) → IsPlacement y → Fit I D → IsFormOf I D y R → AreUnder R u v → Completes y p
    → (R.value +ℤ (sum_to (λ r. get_or u r (pos 0)) (count_of R) +ℤ sum_to (λ c. get_or v c (pos 0)) (count_of R))) ≤ℤ (pos D.scale *ℤ cost_of I p)
row_duals-le I D y R u v p is fit form under done =
    let m = length R.rows in
    let seated = Seats-completed y p is done in
    let seat = seated.0 in
    let f = Fitting-seats D y R.rows R.columns p seat is form.numbers seated.1 in
    let U : ℕ → ℤ = λ r. get_or u r (pos 0) in
    let V : ℕ → ℤ = λ c. get_or v c (pos 0) in
    let below = seats-le I D y R p seat is fit form done seated.1 in
    let more = sum_to-monotone (λ r. U r +ℤ V (get_or seat r 0)) (λ r. at R r (get_or seat r 0)) m (λ r hr. under.below r (get_or seat r 0) hr (omega (arith, f.wide, f.seated r hr))) in
    let both = sum_to-add U (λ r. V (get_or seat r 0)) m in
    let moved : sum_to (λ r. V (get_or seat r 0)) m ≡ sum_to V m =
    ap (sum_to (λ r. V (get_or seat r 0))) (sym f.long) ∙ sum_to-in_order V seat seated.1.bijection ∙ ap (sum_to V) f.long in
    omega (arith, ints, below, more, both, moved)

-- ---- what a child keeps

-- where no entry is less than nothing, and the duals fit, no entry of a child is
pub IsNonNegative-child : (I : Problem) (D : Duals) (y : Placement) (old new : Form) (h g : ℕ) → IsPlacement y → h < length old.rows → g < length old.columns → Fit I D → AreNumbers D y old.rows old.columns → IsNonNegative old → IsChild I D old h g new → IsNonNegative new
IsNonNegative-child I D y old new h g is hh hg fit n least c = record {
  each = λ r k hr hk.
      let count : length new.rows + 1 ≡ length old.rows = omega (arith, ap length c.rows, length-remove old.rows h hh) in
      let wide : length old.columns ≡ length old.rows = omega (arith, n.row_count, n.column_count, same_count y is) in
      let a = past h r in
      let b = past g k in
      let ha : a < length old.rows = omega (arith, past-skip h r, skip-within h r (length new.rows) hr, count) in
      let hb : b < length old.columns = omega (arith, wide, past-skip g k, skip-within g k (length new.rows) hk, count) in
      let entry_is = c.entries r k (omega (arith, count)) (omega (arith, count)) in
      let old_is = least.each a b ha (omega (arith, wide)) in
      let pair : pos 0 ≤ℤ residual I D (get_or old.rows a 0) (get_or old.columns b 0) (get_or old.rows h 0) (get_or old.columns g 0) =
      fit.below (get_or old.rows a 0) (get_or old.columns b 0) (get_or old.rows h 0) (get_or old.columns g 0)
      (n.rows_within a ha) (n.columns_within b hb) (n.rows_within h hh) (n.columns_within g hg)
      (λ e.
      let same : a ≡ h = one_of_each y.size y.facilities (free_facilities y) a h (facilities_of y is) (omega (arith, n.row_count)) (omega (arith, n.row_count)) (sym (n.facilities a ha) ∙ ap (λ i. get_or D.facilities i 0) e ∙ n.facilities h hh) in
      skip-other h r (sym (past-skip h r) ∙ same))
      (λ e.
      let same : b ≡ g = one_of_each y.size y.places (free_locations y) b g (locations_of y is) (omega (arith, n.column_count)) (omega (arith, n.column_count)) (sym (n.locations b hb) ∙ ap (λ i. get_or D.locations i 0) e ∙ n.locations g hg) in
      skip-other g k (sym (past-skip g k) ∙ same)) in
      omega (arith, ints, entry_is, old_is, pair);
}
