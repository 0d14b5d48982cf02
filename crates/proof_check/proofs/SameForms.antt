-- Forms of a node: a start, a line and a child determine them where they have rows and columns.
use Rattle.std.proofs.Common.{◌≡◌, ℕ, ◌+◌, ◌<◌, List, length, get_or, ℤ, pos, refl, sym, ◌∙◌, ap, ap₂, subst, inl, inr, arith}
use Rattle.std.specs.Prelude.{◌+ℤ◌, ◌-ℤ◌, ◌≤ℤ◌, nat_lt, remove}
use Rattle.std.proofs.lemmas.Bool.{cases_lt, cond-true, cond-false, lt-ltb, le-ltb}
use Rattle.std.proofs.lemmas.Int.{ints}
use Rattle.std.proofs.lemmas.List.{same_lists, get_or_default}
use Rattle.qap_cost.specs.Instance.{Problem, entry}
use Rattle.qap_cost.specs.Placement.{ListsFree, Placement, IsPlacement, free_facilities, free_locations}
use Rattle.qap_cost.specs.Sum.{sum_to}
use Rattle.gilmore_lawler.proofs.Skips.{length-remove}
use Rattle.pair_duals.specs.PairDuals.{AreOf, Duals, residual}
use Rattle.pair_duals.specs.Reduced.{Form, AreLeast, AreLeastOfRows, IsChild, IsLeast, IsLine, IsStart, at, count_of, dual_entry, less_both, less_row, past}
use Rattle.pair_duals.proofs.Seatings.{facilities_of, locations_of, one_of_each}
use Rattle.proof_tree.specs.Valid.{IsClosed, ReachesBound, Under, under}

-- the same value, rows, columns and depth, and the same entries in these
pub record AreSame (R S : Form) : Type 0 where
  pub value : R.value ≡ S.value
  pub rows : R.rows ≡ S.rows
  pub columns : R.columns ≡ S.columns
  pub depth : R.depth ≡ S.depth
  pub entries : (r c : ℕ) → r < count_of R → c < count_of R → at R r c ≡ at S r c

pub AreSame-itself : (R : Form) → AreSame R R
AreSame-itself R = record { value = refl; rows = refl; columns = refl; depth = refl; entries = λ r c hr hc. refl }

pub AreSame-turned : (R S : Form) → AreSame R S → AreSame S R
AreSame-turned R S h =
    let count = ap length h.rows in
    record { value = sym h.value; rows = sym h.rows; columns = sym h.columns; depth = sym h.depth; entries = λ r c hr hc. sym (h.entries r c (omega (arith, count)) (omega (arith, count))) }

-- ---- least numbers

-- numbers have one least
pub one_least : (f g : ℕ → ℤ) (m : ℕ) (a b : ℤ) → ((r : ℕ) → r < m → f r ≡ g r) → IsLeast f m a → IsLeast g m b → a ≡ b
one_least f g m a b same h k =
    let here = h.below k.reached.0 k.reached.1 in
    let there = k.below h.reached.0 h.reached.1 in
    let e = same k.reached.0 k.reached.1 in
    let e' = same h.reached.0 h.reached.1 in
    let x = h.reached.2 in
    let y = k.reached.2 in
    omega (arith, ints, here, there, e, e', x, y)

IsLeast-same : (f g : ℕ → ℤ) (m : ℕ) (a : ℤ) → ((r : ℕ) → r < m → f r ≡ g r) → IsLeast f m a → IsLeast g m a
IsLeast-same f g m a same h = record {
  below = λ r hr. subst (λ (z : ℤ). a ≤ℤ z) (same r hr) (h.below r hr);
  reached = (h.reached.0, h.reached.1, h.reached.2 ∙ same h.reached.0 h.reached.1);
}

-- equal numbers, and so equal sums of all
one_total : (m : ℕ) (u v : List ℤ) → length u ≡ m → length v ≡ m → ((c : ℕ) → c < m → get_or u c (pos 0) ≡ get_or v c (pos 0)) → u ≡ v
one_total m u v hu hv same =
    same_lists u v (hu ∙ sym hv) (λ k d below.
    sym (get_or_default u k (pos 0) d (omega (arith, below))) ∙ same k (omega (arith, hu, below)) ∙ get_or_default v k (pos 0) d (omega (arith, hu, hv, below)))

-- the column minima that remain are the same
pub one_list_of_least : (m n : ℕ) (xs ys u w v : List ℤ) → m ≡ n → u ≡ w → ((r c : ℕ) → r < m → c < m → entry m xs r c ≡ entry n ys r c) → AreLeast m xs u v → AreLeast n ys w v
one_list_of_least m n xs ys u w v count is same h = record {
  count = h.count ∙ count;
  least = λ c hc.
      subst (λ (k : ℕ). IsLeast (less_row n ys w c) k (get_or v c (pos 0))) count
      (IsLeast-same (less_row m xs u c) (less_row n ys w c) m (get_or v c (pos 0)) (λ r hr. ap₂ (λ a b. a -ℤ b) (same r c hr (omega (arith, count, hc))) (ap (λ l. get_or l r (pos 0)) is)) (h.least c (omega (arith, count, hc))));
}

pub one_least_of_columns : (m : ℕ) (xs u v w : List ℤ) → AreLeast m xs u v → AreLeast m xs u w → v ≡ w
one_least_of_columns m xs u v w h k =
    one_total m v w h.count k.count (λ c hc. one_least (less_row m xs u c) (less_row m xs u c) m (get_or v c (pos 0)) (get_or w c (pos 0)) (λ r hr. refl) (h.least c hc) (k.least c hc))

pub one_least_of_rows : (m n : ℕ) (xs ys u w : List ℤ) → m ≡ n → ((r c : ℕ) → r < m → c < m → entry m xs r c ≡ entry n ys r c) → AreLeastOfRows m xs u → AreLeastOfRows n ys w → u ≡ w
one_least_of_rows m n xs ys u w count same h k =
    one_total m u w h.count (k.count ∙ sym count) (λ r hr.
    one_least (entry m xs r) (entry n ys r) m (get_or u r (pos 0)) (get_or w r (pos 0)) (λ c hc. same r c hr hc) (h.least r hr)
    (subst (λ (i : ℕ). IsLeast (entry n ys r) i (get_or w r (pos 0))) (sym count) (k.least r (omega (arith, count, hr)))))

-- ---- lines

-- a line of a form is one of each that is the same
pub IsLine-same : (R S T : Form) (u v : List ℤ) → AreSame R S → IsLine R T u v → IsLine S T u v
IsLine-same R S T u v same h =
    let count : count_of R ≡ count_of S = ap length same.rows in
    record {
      least = one_list_of_least (count_of R) (count_of S) R.entries S.entries u u v count refl same.entries h.least;
      rows = h.rows ∙ same.rows;
      columns = h.columns ∙ same.columns;
      depth = h.depth ∙ same.depth;
      is_lined = h.is_lined;
      value = h.value ∙ ap₂ (λ z (k : ℕ). z +ℤ (sum_to (λ r. get_or u r (pos 0)) k +ℤ sum_to (λ c. get_or v c (pos 0)) k)) same.value count;
      entries = λ r c hr hc.
          h.entries r c (omega (arith, count, hr)) (omega (arith, count, hc))
          ∙ ap (λ z. z -ℤ (get_or u r (pos 0) +ℤ get_or v c (pos 0))) (same.entries r c (omega (arith, count, hr)) (omega (arith, count, hc)));
    }

-- a line leads to one form
pub one_line : (R S T : Form) (u v w : List ℤ) → IsLine R S u v → IsLine R T u w → AreSame S T
one_line R S T u v w h k =
    let same : v ≡ w = one_least_of_columns (count_of R) R.entries u v w h.least k.least in
    let count : count_of S ≡ count_of R = ap length h.rows in
    record {
      value = h.value ∙ ap (λ (l : List ℤ). R.value +ℤ (sum_to (λ r. get_or u r (pos 0)) (count_of R) +ℤ sum_to (λ c. get_or l c (pos 0)) (count_of R))) same ∙ sym k.value;
      rows = h.rows ∙ sym k.rows;
      columns = h.columns ∙ sym k.columns;
      depth = h.depth ∙ sym k.depth;
      entries = λ r c hr hc.
          let r_in : r < count_of R = omega (arith, count, hr) in
          let c_in : c < count_of R = omega (arith, count, hc) in
          h.entries r c r_in c_in ∙ ap (λ (l : List ℤ). less_both (count_of R) R.entries u l r c) same ∙ sym (k.entries r c r_in c_in);
    }

-- ---- children

past-within : (h k m : ℕ) → k + 1 < m → past h k < m
past-within h k m less =
    elim (cases_lt k h) [
      | inl before ↦ let is = cond-true (nat_lt k h) k (k + 1) (lt-ltb k h before) in omega (arith, is, less)
      | inr past ↦ let is = cond-false (nat_lt k h) k (k + 1) (le-ltb k h past) in omega (arith, is, less)
    ]

-- a child's form is one of each that is the same
pub IsChild-same : (I : Problem) (D : Duals) (R S T : Form) (h g : ℕ) → h < count_of R → g < count_of R → AreSame R S → IsChild I D R h g T → IsChild I D S h g T
IsChild-same I D R S T h g hh hg same k =
    let count : count_of R ≡ count_of S = ap length same.rows in
    record {
      depth = k.depth ∙ ap (λ d. d + 1) same.depth;
      is_lined = k.is_lined;
      value = k.value ∙ ap₂ (λ a b. a +ℤ b) same.value (same.entries h g hh hg);
      rows = k.rows ∙ ap (λ l. remove l h) same.rows;
      columns = k.columns ∙ ap (λ l. remove l g) same.columns;
      entries = λ r c hr hc.
          let r_in : r + 1 < count_of R = omega (arith, count, hr) in
          let c_in : c + 1 < count_of R = omega (arith, count, hc) in
          k.entries r c r_in c_in
          ∙ ap₂ (λ a b. a +ℤ b) (same.entries (past h r) (past g c) (past-within h r (count_of R) r_in) (past-within g c (count_of R) c_in))
          (ap₂ (λ (rows columns : List ℕ). residual I D (get_or rows (past h r) 0) (get_or columns (past g c) 0) (get_or rows h 0) (get_or columns g 0)) same.rows same.columns);
    }

-- a child has one form
pub one_child : (I : Problem) (D : Duals) (R S T : Form) (h g : ℕ) → h < count_of R → IsChild I D R h g S → IsChild I D R h g T → AreSame S T
one_child I D R S T h g hh a b =
    let count : count_of S + 1 ≡ count_of R = ap (λ l. length l + 1) a.rows ∙ length-remove R.rows h hh in
    record {
      value = a.value ∙ sym b.value;
      rows = a.rows ∙ sym b.rows;
      columns = a.columns ∙ sym b.columns;
      depth = a.depth ∙ sym b.depth;
      entries = λ r c hr hc.
          let r_in : r + 1 < count_of R = omega (arith, count, hr) in
          let c_in : c + 1 < count_of R = omega (arith, count, hc) in
          a.entries r c r_in c_in ∙ sym (b.entries r c r_in c_in);
    }

-- ---- starts

-- the free ones of a node have one list of numbers
one_list_of_numbers : (n : ℕ) (taken free from xs ys : List ℕ) (m : ℕ) → (from ≡ free) → length xs ≡ m → length ys ≡ m
    → ((r : ℕ) → r < m → (get_or xs r 0 < length from) × (get_or from (get_or xs r 0) 0 ≡ get_or free r 0)) → ((r : ℕ) → r < m → (get_or ys r 0 < length from) × (get_or from (get_or ys r 0) 0 ≡ get_or free r 0))
    → ListsFree n taken free → xs ≡ ys
one_list_of_numbers n taken free from xs ys m is hx hy at_x at_y lists =
    let long = ap length is in
    same_lists xs ys (hx ∙ sym hy) (λ k d below.
    let here : k < m = omega (arith, hx, below) in
    let x = at_x k here in
    let y = at_y k here in
    let same : get_or xs k 0 ≡ get_or ys k 0 = one_of_each n taken free (get_or xs k 0) (get_or ys k 0) lists (omega (arith, x.0, long)) (omega (arith, y.0, long))
    (sym (ap (λ (l : List ℕ). get_or l (get_or xs k 0) 0) is) ∙ x.1 ∙ sym y.1 ∙ ap (λ (l : List ℕ). get_or l (get_or ys k 0) 0) is) in
    sym (get_or_default xs k 0 d (omega (arith, below))) ∙ same ∙ get_or_default ys k 0 d (omega (arith, hx, hy, below)))

-- a node has one form from the duals alone
pub one_start : (I : Problem) (D : Duals) (y : Placement) (R S : Form) → IsPlacement y → AreOf y D → IsStart I D y R → IsStart I D y S → AreSame R S
one_start I D y R S is of h k =
    let a = h.numbers in
    let b = k.numbers in
    let m = length (free_facilities y) in
    let l = length (free_locations y) in
    let rows : R.rows ≡ S.rows = one_list_of_numbers y.size y.facilities (free_facilities y) D.facilities R.rows S.rows m of.facilities a.row_count b.row_count
    (λ r hr. (a.rows_within r (omega (arith, a.row_count, hr)), a.facilities r (omega (arith, a.row_count, hr)))) (λ r hr. (b.rows_within r (omega (arith, b.row_count, hr)), b.facilities r (omega (arith, b.row_count, hr)))) (facilities_of y is) in
    let columns : R.columns ≡ S.columns = one_list_of_numbers y.size y.places (free_locations y) D.locations R.columns S.columns l of.locations a.column_count b.column_count
    (λ r hr. (a.columns_within r (omega (arith, a.column_count, hr)), a.locations r (omega (arith, a.column_count, hr)))) (λ r hr. (b.columns_within r (omega (arith, b.column_count, hr)), b.locations r (omega (arith, b.column_count, hr)))) (locations_of y is) in
    let count : count_of R ≡ count_of S = ap length rows in
    record {
      value = h.value ∙ sym k.value;
      rows = rows;
      columns = columns;
      depth = h.depth ∙ sym k.depth;
      entries = λ r c hr hc. h.entries r c hr hc ∙ ap₂ (λ (xs ys : List ℕ). dual_entry I D y xs ys r c) rows columns ∙ sym (k.entries r c (omega (arith, count, hr)) (omega (arith, count, hc)));
    }

-- ---- closed children

-- a child that is closed by a form is so by each that is the same
pub IsClosed-same : (I : Problem) (step : ℕ) (bound : ℤ) (now : Under) (S : Form) (h g : ℕ) → h < count_of now.form → g < count_of now.form → AreSame now.form S → IsClosed I step bound now h g → IsClosed I step bound (under now.duals S) h g
IsClosed-same I step bound now S h g hh hg same (inl alone) = inl (subst (ReachesBound step bound now.duals.scale) (ap₂ (λ a b. a +ℤ b) same.value (same.entries h g hh hg)) alone)
IsClosed-same I step bound now S h g hh hg same (inr more) = inr (record {
  form = more.form;
  u = more.u;
  v = more.v;
  child = IsChild-same I now.duals now.form S more.form h g hh hg same more.child;
  rows = more.rows;
  columns = more.columns;
  reaches = more.reaches;
})
