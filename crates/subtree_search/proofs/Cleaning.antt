-- Pair duals for itself mean nothing: without them, pair duals fit as before, and forms are the same.
use Rattle.std.proofs.Common.{◌≡◌, ◌≢◌, ℕ, ◌+◌, ◌*◌, ◌/◌, ◌%◌, ◌<◌, cond, List, length, get_or, ℤ, pos, refl, sym, ◌∙◌, ap, ap₂, subst, inl, inr, arith}
use Rattle.std.specs.Prelude.{◌⊎◌, ◌+ℤ◌, ◌-ℤ◌, ◌*ℤ◌, ◌≤ℤ◌, nat_eq, nat_lt}
use Rattle.std.proofs.lemmas.Bool.{cases_lt, cond-true, cond-false, lt-ltb, le-ltb, eq-eqb}
use Rattle.std.proofs.lemmas.List.FromFn.{get_or-map-range_with_len}
use Rattle.std.proofs.lemmas.Nat.{div-mul-add, mod-mul-add}
use Rattle.qap_cost.specs.Instance.{Problem, entry}
use Rattle.qap_cost.specs.Placement.{Placement, IsPlacement, free_facilities, free_locations}
use Rattle.qap_cost.specs.Sum.{sum_to}
use Rattle.qap_cost.proofs.Sums.{sum_to-same}
use Rattle.gilmore_lawler.specs.ReducedMatrix.{linear_cost}
use Rattle.gilmore_lawler.proofs.Skips.{skip-other}
use Rattle.pair_duals.specs.PairDuals.{Duals, Fit, alpha_of, beta_of, cube, in_layers, residual, scaled_cost}
use Rattle.pair_duals.specs.Reduced.{Form, AreNumbers, IsChild, IsFormOf, IsStart, count_of, left_of_pair, past, sum_but}
use Rattle.pair_duals.proofs.DualRows.{row_in_layers}
use Rattle.pair_duals.proofs.Forms.{past-skip}
use Rattle.pair_duals.proofs.PairSums.{but_other, sum_of_pairs-same}
use Rattle.pair_duals.proofs.Seatings.{facilities_of, locations_of, one_of_each}
use Rattle.subtree_search.specs.Clean.{clean, without_columns, without_rows}

-- ---- layers

-- the place of a dual lies within its list
pub place-within : (m j i k : ℕ) → j < m → i < m → k < m → (j * m + i) * m + k < cube m
place-within m j i k hj hi hk = let row = row_in_layers m j i hj hi in omega (arith, row, hk)

kept-if : (a b c d : ℕ) (x : ℤ) → a ≡ c → b ≡ d → c ≢ d → cond (nat_eq a b) (pos 0) x ≡ x
kept-if a b c d x ac bd apart = ap₂ (λ p q. cond (nat_eq p q) (pos 0) x) ac bd ∙ but_other d (λ _. x) c apart

none-if : (a b c : ℕ) (x : ℤ) → a ≡ c → b ≡ c → cond (nat_eq a b) (pos 0) x ≡ pos 0
none-if a b c x ac bc = cond-true (nat_eq a b) (pos 0) x (eq-eqb a b (ac ∙ sym bc))

row-is : (m j i k : ℕ) → i < m → k < m → ((((j * m + i) * m + k) / m) % m) ≡ i
row-is m j i k hi hk = ap (λ q. q % m) (div-mul-add (j * m + i) m k hk) ∙ mod-mul-add j m i hi

layer-is : (m j i k : ℕ) → i < m → k < m → ((((j * m + i) * m + k) / m) / m) ≡ j
layer-is m j i k hi hk = ap (λ q. q / m) (div-mul-add (j * m + i) m k hk) ∙ div-mul-add j m i hi

rows-kept : (m : ℕ) (xs : List ℤ) (j i k : ℕ) → j < m → i < m → k < m → i ≢ j → in_layers m (without_rows m xs) j i k ≡ in_layers m xs j i k
rows-kept m xs j i k hj hi hk apart =
    let t = (j * m + i) * m + k in
    let f : ℕ → ℤ = λ t. cond (nat_eq ((t / m) % m) ((t / m) / m)) (pos 0) (get_or xs t (pos 0)) in
    get_or-map-range_with_len f 0 (cube m) t t (pos 0) (place-within m j i k hj hi hk) (omega arith)
    ∙ kept-if ((t / m) % m) ((t / m) / m) i j (get_or xs t (pos 0)) (row-is m j i k hi hk) (layer-is m j i k hi hk) apart

rows-none : (m : ℕ) (xs : List ℤ) (i k : ℕ) → i < m → k < m → in_layers m (without_rows m xs) i i k ≡ pos 0
rows-none m xs i k hi hk =
    let t = (i * m + i) * m + k in
    let f : ℕ → ℤ = λ t. cond (nat_eq ((t / m) % m) ((t / m) / m)) (pos 0) (get_or xs t (pos 0)) in
    get_or-map-range_with_len f 0 (cube m) t t (pos 0) (place-within m i i k hi hi hk) (omega arith)
    ∙ none-if ((t / m) % m) ((t / m) / m) i (get_or xs t (pos 0)) (row-is m i i k hi hk) (layer-is m i i k hi hk)

columns-kept : (m : ℕ) (xs : List ℤ) (j i k : ℕ) → j < m → i < m → k < m → k ≢ j → in_layers m (without_columns m xs) j i k ≡ in_layers m xs j i k
columns-kept m xs j i k hj hi hk apart =
    let t = (j * m + i) * m + k in
    let f : ℕ → ℤ = λ t. cond (nat_eq (t % m) ((t / m) / m)) (pos 0) (get_or xs t (pos 0)) in
    get_or-map-range_with_len f 0 (cube m) t t (pos 0) (place-within m j i k hj hi hk) (omega arith)
    ∙ kept-if (t % m) ((t / m) / m) k j (get_or xs t (pos 0)) (mod-mul-add (j * m + i) m k hk) (layer-is m j i k hi hk) apart

columns-none : (m : ℕ) (xs : List ℤ) (i k : ℕ) → i < m → k < m → in_layers m (without_columns m xs) k i k ≡ pos 0
columns-none m xs i k hi hk =
    let t = (k * m + i) * m + k in
    let f : ℕ → ℤ = λ t. cond (nat_eq (t % m) ((t / m) / m)) (pos 0) (get_or xs t (pos 0)) in
    get_or-map-range_with_len f 0 (cube m) t t (pos 0) (place-within m k i k hk hi hk) (omega arith)
    ∙ none-if (t % m) ((t / m) / m) k (get_or xs t (pos 0)) (mod-mul-add (k * m + i) m k hk) (layer-is m k i k hi hk)

-- ---- the duals

-- cleaning keeps each dual of two different facilities
pub alpha-kept : (D : Duals) (i k j : ℕ) → i < length D.facilities → k < length D.facilities → j < length D.facilities → i ≢ j → alpha_of (clean D) i k j ≡ alpha_of D i k j
alpha-kept D i k j hi hk hj apart = rows-kept (length D.facilities) D.alpha j i k hj hi hk apart

-- and each dual of two different locations
pub beta-kept : (D : Duals) (i k l : ℕ) → i < length D.facilities → k < length D.facilities → l < length D.facilities → k ≢ l → beta_of (clean D) i k l ≡ beta_of D i k l
beta-kept D i k l hi hk hl apart = columns-kept (length D.facilities) D.beta l i k hl hi hk apart

-- a facility has no dual with itself
pub alpha-none : (D : Duals) (i k : ℕ) → i < length D.facilities → k < length D.facilities → alpha_of (clean D) i k i ≡ pos 0
alpha-none D i k hi hk = rows-none (length D.facilities) D.alpha i k hi hk

-- and neither has a location
pub beta-none : (D : Duals) (i k : ℕ) → i < length D.facilities → k < length D.facilities → beta_of (clean D) i k k ≡ pos 0
beta-none D i k hi hk = columns-none (length D.facilities) D.beta i k hi hk

-- as many locations as facilities
abbrev pub IsEven : Duals → Type 0
IsEven D = length D.locations ≡ length D.facilities

residual-kept : (I : Problem) (D : Duals) (i k j l : ℕ) → i < length D.facilities → k < length D.facilities → j < length D.facilities → l < length D.facilities → i ≢ j → k ≢ l → residual I (clean D) i k j l ≡ residual I D i k j l
residual-kept I D i k j l hi hk hj hl rows columns =
    let back : j ≢ i = λ e. rows (sym e) in
    let behind : l ≢ k = λ e. columns (sym e) in
    ap₂ (λ x y. scaled_cost I D i k j l -ℤ (x +ℤ y))
    (ap₂ ◌+ℤ◌ (alpha-kept D i k j hi hk hj rows) (beta-kept D i k l hi hk hl columns))
    (ap₂ ◌+ℤ◌ (alpha-kept D j l i hj hl hi back) (beta-kept D j l k hj hl hk behind))

-- cleaned pair duals fit where the given ones do
pub Fit-clean : (I : Problem) (D : Duals) → IsEven D → Fit I D → Fit I (clean D)
Fit-clean I D even fit = record {
  below = λ i k j l hi hk hj hl rows columns.
      subst (λ z. pos 0 ≤ℤ z) (sym (residual-kept I D i k j l hi (omega (arith, hk, even)) hj (omega (arith, hl, even)) rows columns)) (fit.below i k j l hi hk hj hl rows columns);
}

-- ---- rows and columns

AreNumbers-clean : (D : Duals) (y : Placement) (rows columns : List ℕ) → AreNumbers D y rows columns → AreNumbers (clean D) y rows columns
AreNumbers-clean D y rows columns n = record {
  row_count = n.row_count;
  column_count = n.column_count;
  rows_within = n.rows_within;
  columns_within = n.columns_within;
  facilities = n.facilities;
  locations = n.locations;
}

rows-apart : (D : Duals) (y : Placement) (rows columns : List ℕ) (r t : ℕ) → IsPlacement y → AreNumbers D y rows columns → r < length rows → t < length rows → r ≢ t → get_or rows r 0 ≢ get_or rows t 0
rows-apart D y rows columns r t is n hr ht apart same =
    apart (one_of_each y.size y.facilities (free_facilities y) r t (facilities_of y is) (omega (arith, n.row_count)) (omega (arith, n.row_count))
    (sym (n.facilities r hr) ∙ ap (λ i. get_or D.facilities i 0) same ∙ n.facilities t ht))

columns-apart : (D : Duals) (y : Placement) (rows columns : List ℕ) (c d : ℕ) → IsPlacement y → AreNumbers D y rows columns → c < length columns → d < length columns → c ≢ d → get_or columns c 0 ≢ get_or columns d 0
columns-apart D y rows columns c d is n hc hd apart same =
    apart (one_of_each y.size y.places (free_locations y) c d (locations_of y is) (omega (arith, n.column_count)) (omega (arith, n.column_count))
    (sym (n.locations c hc) ∙ ap (λ k. get_or D.locations k 0) same ∙ n.locations d hd))

-- ---- forms

same_or : (a b : ℕ) → (a ≡ b) ⊎ (a ≢ b)
same_or a b =
    elim (cases_lt a b) [
      | inl less ↦ inr (λ e. omega (arith, less, e))
      | inr rest ↦ elim (cases_lt b a) [
        | inl more ↦ inr (λ e. omega (arith, more, e))
        | inr last ↦ inl (omega arith)
      ]
    ]

but-same : (k j : ℕ) (x z : ℤ) → (j ≢ k → x ≡ z) → cond (nat_eq j k) (pos 0) x ≡ cond (nat_eq j k) (pos 0) z
but-same k j x z each =
    elim (same_or j k) [
      | inl own ↦ none-if j k k x own refl ∙ sym (none-if j k k z own refl)
      | inr other ↦ ap (λ a. cond (nat_eq j k) (pos 0) a) (each other)
    ]

sum_but-same : (k : ℕ) (f g : ℕ → ℤ) (n : ℕ) → ((j : ℕ) → j < n → j ≢ k → f j ≡ g j) → sum_but k f n ≡ sum_but k g n
sum_but-same k f g n each =
    sum_to-same (λ j. cond (nat_eq j k) (pos 0) (f j)) (λ j. cond (nat_eq j k) (pos 0) (g j)) n (λ j below. but-same k j (f j) (g j) (each j below))

-- a form at the start is one under the cleaned duals
pub IsStart-clean : (I : Problem) (D : Duals) (y : Placement) (R : Form) → IsEven D → IsPlacement y → IsStart I D y R → IsStart I (clean D) y R
IsStart-clean I D y R even is start =
    let n = start.numbers in
    let m = length D.facilities in
    let wide : length R.columns ≡ length R.rows = omega (arith, n.row_count, n.column_count, (facilities_of y is).count, (locations_of y is).count, is.paired) in
    let row : (r : ℕ) → r < length R.rows → get_or R.rows r 0 < m = n.rows_within in
    let column : (c : ℕ) → c < length R.columns → get_or R.columns c 0 < m = λ c hc. let h = n.columns_within c hc in omega (arith, h, even) in
    record {
      numbers = AreNumbers-clean D y R.rows R.columns n;
      depth = start.depth;
      is_lined = start.is_lined;
      value = start.value;
      entries = λ r c hr hc.
          let i = get_or R.rows r 0 in
          let k = get_or R.columns c 0 in
          let hc' : c < length R.columns = omega (arith, wide) in
          let alphas = sum_but-same r (λ t. alpha_of D i k (get_or R.rows t 0)) (λ t. alpha_of (clean D) i k (get_or R.rows t 0)) (length R.rows)
          (λ t ht apart. sym (alpha-kept D i k (get_or R.rows t 0) (row r hr) (column c hc') (row t ht) (rows-apart D y R.rows R.columns r t is n hr ht (λ e. apart (sym e))))) in
          let betas = sum_but-same c (λ d. beta_of D i k (get_or R.columns d 0)) (λ d. beta_of (clean D) i k (get_or R.columns d 0)) (length R.columns)
          (λ d hd apart. sym (beta-kept D i k (get_or R.columns d 0) (row r hr) (column c hc') (column d hd) (columns-apart D y R.rows R.columns c d is n hc' hd (λ e. apart (sym e))))) in
          start.entries r c hr hc ∙ ap₂ (λ x z. pos D.scale *ℤ linear_cost I y (get_or (free_facilities y) r 0) (get_or (free_locations y) c 0) +ℤ (x +ℤ z)) alphas betas;
    }

-- a number that is passed over is not reached
pub past-other : (h k : ℕ) → past h k ≢ h
past-other h k same = skip-other h k (sym (past-skip h k) ∙ same)

-- the others stay within the range
pub past-within : (h k n : ℕ) → k + 1 < n → past h k < n
past-within h k n below =
    elim (cases_lt k h) [
      | inl less ↦ let is = cond-true (nat_lt k h) k (k + 1) (lt-ltb k h less) in omega (arith, is, below)
      | inr more ↦ let is = cond-false (nat_lt k h) k (k + 1) (le-ltb k h more) in omega (arith, is, below)
    ]

-- the form of a child is one under the cleaned duals
pub IsChild-clean : (I : Problem) (D : Duals) (y : Placement) (old new : Form) (h g : ℕ) → IsEven D → IsPlacement y → AreNumbers D y old.rows old.columns → h < count_of old → g < count_of old → IsChild I D old h g new → IsChild I (clean D) old h g new
IsChild-clean I D y old new h g even is n hh hg child =
    let m = length D.facilities in
    let wide : length old.columns ≡ length old.rows = omega (arith, n.row_count, n.column_count, (facilities_of y is).count, (locations_of y is).count, is.paired) in
    let column : (c : ℕ) → c < length old.columns → get_or old.columns c 0 < m = λ c hc. let h = n.columns_within c hc in omega (arith, h, even) in
    record {
      depth = child.depth;
      is_lined = child.is_lined;
      value = child.value;
      rows = child.rows;
      columns = child.columns;
      entries = λ r c hr hc.
          let row = past h r in
          let col = past g c in
          let row_in = past-within h r (length old.rows) hr in
          let col_in = past-within g c (length old.columns) (omega (arith, hc, wide)) in
          let g_in : g < length old.columns = omega (arith, hg, wide) in
          child.entries r c hr hc
          ∙ ap (λ z. entry (length old.rows) old.entries row col +ℤ z)
          (sym (residual-kept I D (get_or old.rows row 0) (get_or old.columns col 0) (get_or old.rows h 0) (get_or old.columns g 0)
          (n.rows_within row row_in) (column col col_in) (n.rows_within h hh) (column g g_in)
          (rows-apart D y old.rows old.columns row h is n row_in hh (past-other h r)) (columns-apart D y old.rows old.columns col g is n col_in g_in (past-other g c))));
    }

-- so is any form of a node
pub IsFormOf-clean : (I : Problem) (D : Duals) (y : Placement) (R : Form) → IsEven D → IsPlacement y → IsFormOf I D y R → IsFormOf I (clean D) y R
IsFormOf-clean I D y R even is form =
    let n = form.numbers in
    let m = length D.facilities in
    let column : (c : ℕ) → c < length R.columns → get_or R.columns c 0 < m = λ c hc. let h = n.columns_within c hc in omega (arith, h, even) in
    record {
      numbers = AreNumbers-clean D y R.rows R.columns n;
      identity = λ p seat done seats.
          let long : length seat ≡ length R.rows = omega (arith, seats.count, n.row_count) in
          let wide : length R.columns ≡ length R.rows = omega (arith, n.row_count, n.column_count, (facilities_of y is).count, (locations_of y is).count, is.paired) in
          let inside : (r : ℕ) → r < length R.rows → get_or seat r 0 < length R.columns = λ r hr. let h = seats.bijection.within r (omega (arith, hr, long)) in omega (arith, h, long, wide) in
          form.identity p seat done seats
          ∙ ap (λ z. (R.value +ℤ sum_to (λ r. entry (length R.rows) R.entries r (get_or seat r 0)) (count_of R)) +ℤ z)
          (sum_of_pairs-same (left_of_pair I D R.rows R.columns seat) (left_of_pair I (clean D) R.rows R.columns seat) (count_of R)
          (λ r t ht hr.
          let ht' : t < length R.rows = omega (arith, ht, hr) in
          let apart : r ≢ t = λ e. omega (arith, e, ht) in
          let seats_apart : get_or seat r 0 ≢ get_or seat t 0 = λ e. apart (seats.bijection.distinct r t (omega (arith, hr, long)) (omega (arith, ht', long)) e) in
          sym (residual-kept I D (get_or R.rows r 0) (get_or R.columns (get_or seat r 0) 0) (get_or R.rows t 0) (get_or R.columns (get_or seat t 0) 0)
          (n.rows_within r hr) (column (get_or seat r 0) (inside r hr)) (n.rows_within t ht') (column (get_or seat t 0) (inside t ht'))
          (rows-apart D y R.rows R.columns r t is n hr ht' apart) (columns-apart D y R.rows R.columns (get_or seat r 0) (get_or seat t 0) is n (inside r hr) (inside t ht') seats_apart))));
    }
