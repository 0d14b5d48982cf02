-- A start, a line and a child keep a form within its width, and are what they are said to be.
use Rattle.std.proofs.Common.{◌≡◌, ℕ, ◌+◌, ◌-◌, ◌*◌, ◌^◌, ◌<◌, ◌≤◌, true, false, Bool, cond, nat_eq, arith, refl, sym, ◌∙◌, ap, ap₂, subst, List, length, get_or}
use Rattle.std.specs.Prelude.{ℤ, pos, ◌+ℤ◌, ◌*ℤ◌, ◌≤ℤ◌, remove, unsigned_abs}
use Rattle.std.proofs.lemmas.Int.{ints}
use Rattle.std.proofs.lemmas.Nat.{mul-le}
use Rattle.qap_cost.specs.Instance.{Problem, entry}
use Rattle.qap_cost.specs.Matrix.{total}
use Rattle.qap_cost.specs.Placement.{Placement, IsPlacement, free_facilities, free_locations, fixed_cost_of}
use Rattle.qap_cost.specs.Range.{AllWithin}
use Rattle.qap_cost.specs.Sum.{sum_to}
use Rattle.qap_cost.proofs.Sums.{sum_to-same}
use Rattle.gilmore_lawler.specs.ReducedMatrix.{linear_cost}
use Rattle.gilmore_lawler.proofs.Skips.{skip-within, length-remove}
use Rattle.pair_duals.specs.Filling.{AreEntries}
use Rattle.pair_duals.specs.Limits.{Limits, AreEnough, reach}
use Rattle.pair_duals.specs.PairDuals.{Duals, AreDuals, AreOf, alpha_of, beta_of, residual}
use Rattle.pair_duals.specs.Range.{IsInReach, IsInScale, IsSpread, value_reach}
use Rattle.pair_duals.specs.Reduced.{Form, at, count_of, sum_but, AreLeast, AreNumbers, AreWithin, IsChild, IsLine, IsNonNegative, IsStart, child_entry, dual_entry, less_both, past}
use Rattle.pair_duals.specs.Start.{AreFirst, own_entry}
use Rattle.pair_duals.proofs.Forms.{past-skip}
use Rattle.pair_duals.proofs.Leasts.{IsSpread-line, line-between}
use Rattle.pair_duals.proofs.Seatings.{facilities_of}
use Rattle.pair_duals.proofs.Widths.{IsSpread-from_entries, entry-within, entry-apart, reach-within, residual-within, own_entry-within}

IsSpread-wider : (far more : ℕ) (xs : List ℤ) → far ≤ more → IsSpread far xs → IsSpread more xs
IsSpread-wider far more xs h s = record {
  each = λ j hj. omega (arith, s.each j hj);
  apart = λ i j hi hj. let a = s.apart i j hi hj in omega (arith, ints, a, h);
}

-- ---- a child

-- how far from 0 an entry of a child lies
pub child-within : (m : Limits) (I : Problem) (D : Duals) (R : Form) (h g r c : ℕ) → AreEnough m → AreDuals m D → IsInScale m I D.scale → I.size ≡ D.size → IsInReach m R → AreWithin D R.rows R.columns → h < count_of R → g < count_of R → r + 1 < count_of R → c + 1 < count_of R
    → unsigned_abs (child_entry I D R.rows R.columns R.entries h g r c) ≤ reach m R.depth R.is_lined + m.pair
child-within m I D R h g r c enough d scale size in_reach within hh hg hr hc =
    let a = past h r in
    let b = past g c in
    let ha : a < count_of R = omega (arith, past-skip h r, skip-within h r (count_of R - 1) (omega arith)) in
    let hb : b < count_of R = omega (arith, past-skip g c, skip-within g c (count_of R - 1) (omega arith)) in
    let old = entry-within (reach m R.depth R.is_lined) (count_of R) R.entries a b in_reach.count in_reach.entries ha hb in
    let left = residual-within m I D (get_or R.rows a 0) (get_or R.columns b 0) (get_or R.rows h 0) (get_or R.columns g 0) enough d scale size (within.each_row a ha) (within.each_column b (omega (arith, in_reach.wide))) (within.each_row h hh) (within.each_column g (omega (arith, in_reach.wide))) in
    omega (arith, ints, old, left)

reach-child : (m : Limits) (depth : ℕ) (lined : Bool) → reach m depth lined + 2 * m.pair ≤ reach m (depth + 1) false
reach-child m depth true = omega arith
reach-child m depth false = omega arith

IsSpread-child : (m : Limits) (I : Problem) (D : Duals) (R : Form) (h g : ℕ) (new : List ℤ) → AreEnough m → AreDuals m D → IsInScale m I D.scale → I.size ≡ D.size → IsInReach m R → AreWithin D R.rows R.columns → h < count_of R → g < count_of R
    → length new ≡ (count_of R - 1) * (count_of R - 1) → AreEntries (count_of R - 1) (child_entry I D R.rows R.columns R.entries h g) new → IsSpread (reach m (R.depth + 1) false) new
IsSpread-child m I D R h g new enough d scale size in_reach within hh hg count is =
    let n = count_of R in
    let k = n - 1 in
    let far = reach m R.depth R.is_lined in
    let inside : (l r : ℕ) → l < n → r < k → past l r < n = λ l r hl hr. omega (arith, past-skip l r, skip-within l r k hr) in
    let left : (r c : ℕ) → r < k → c < k → unsigned_abs (residual I D (get_or R.rows (past h r) 0) (get_or R.columns (past g c) 0) (get_or R.rows h 0) (get_or R.columns g 0)) ≤ m.pair = λ r c hr hc.
    residual-within m I D (get_or R.rows (past h r) 0) (get_or R.columns (past g c) 0) (get_or R.rows h 0) (get_or R.columns g 0) enough d scale size (within.each_row (past h r) (inside h r hh hr)) (within.each_column (past g c) (omega (arith, in_reach.wide, inside g c hg hc))) (within.each_row h hh) (within.each_column g (omega (arith, in_reach.wide))) in
    IsSpread-wider (far + 2 * m.pair) (reach m (R.depth + 1) false) new (reach-child m R.depth R.is_lined)
    (IsSpread-from_entries (far + 2 * m.pair) k new count
    (λ r c hr hc.
    let old = entry-within far n R.entries (past h r) (past g c) in_reach.count in_reach.entries (inside h r hh hr) (inside g c hg hc) in
    let e = left r c hr hc in
    let value = is.entries r c hr hc in
    omega (arith, ints, old, e, value))
    (λ r c q e hr hc hq he.
    let old = entry-apart far n R.entries (past h r) (past g c) (past h q) (past g e) in_reach.count in_reach.entries (inside h r hh hr) (inside g c hg hc) (inside h q hh hq) (inside g e hg he) in
    let x = left r c hr hc in
    let y = left q e hq he in
    let here = is.entries r c hr hc in
    let there = is.entries q e hq he in
    omega (arith, ints, old, x, y, here, there)))

value-child : (m : Limits) (depth : ℕ) (lined : Bool) (z e : ℤ) → AreEnough m → unsigned_abs z ≤ value_reach depth lined → unsigned_abs e ≤ m.reach → unsigned_abs (z +ℤ e) ≤ value_reach (depth + 1) false
value-child m depth true z e enough hz he =
    let room = enough.value in
    let sum = enough.sum in
    let step : 1 * m.sum ≤ m.size * m.sum = mul-le _ _ _ _ enough.positive (omega arith) in
    omega (arith, ints, hz, he, room, sum, step)
value-child m depth false z e enough hz he =
    let room = enough.value in
    let sum = enough.sum in
    let step : 1 * m.sum ≤ m.size * m.sum = mul-le _ _ _ _ enough.positive (omega arith) in
    omega (arith, ints, hz, he, room, sum, step)

-- the form that was made of these parts is the child's
pub IsInReach-child : (m : Limits) (I : Problem) (D : Duals) (R : Form) (h g : ℕ) (z : ℤ) (rows columns : List ℕ) (entries : List ℤ) → AreEnough m → AreDuals m D → IsInScale m I D.scale → I.size ≡ D.size → IsInReach m R → AreWithin D R.rows R.columns → h < count_of R → g < count_of R
    → z ≡ R.value +ℤ at R h g → rows ≡ remove R.rows h → columns ≡ remove R.columns g → length entries ≡ (count_of R - 1) * (count_of R - 1) → AreEntries (count_of R - 1) (child_entry I D R.rows R.columns R.entries h g) entries
    → IsInReach m (record { value = z; rows = rows; columns = columns; entries = entries; depth = R.depth + 1; is_lined = false })
IsInReach-child m I D R h g z rows columns entries enough d scale size r within hh hg ez er ec count is =
    let rows_left : length rows + 1 ≡ length R.rows = omega (arith, ap length er, length-remove R.rows h hh) in
    let columns_left : length columns + 1 ≡ length R.columns = omega (arith, ap length ec, length-remove R.columns g (omega (arith, r.wide))) in
    let k : length rows ≡ count_of R - 1 = omega (arith, rows_left) in
    let own = entry-within (reach m R.depth R.is_lined) (count_of R) R.entries h g r.count r.entries hh hg in
    let far = reach-within m R.depth R.is_lined enough (omega (arith, r.deep)) in
    record {
      wide = omega (arith, rows_left, columns_left, r.wide);
      count = count ∙ ap₂ ◌*◌ (sym k) (sym k);
      deep = omega (arith, r.deep, rows_left);
      entries = IsSpread-child m I D R h g entries enough d scale size r within hh hg count is;
      value = subst (λ (x : ℤ). unsigned_abs x ≤ value_reach (R.depth + 1) false) (sym ez) (value-child m R.depth R.is_lined R.value (at R h g) enough r.value (omega (arith, own, far)));
    }

-- and that form is the child's
pub IsChild-made : (I : Problem) (D : Duals) (R : Form) (h g : ℕ) (z : ℤ) (rows columns : List ℕ) (entries : List ℤ) → h < count_of R → z ≡ R.value +ℤ at R h g → rows ≡ remove R.rows h → columns ≡ remove R.columns g → AreEntries (count_of R - 1) (child_entry I D R.rows R.columns R.entries h g) entries
    → IsChild I D R h g (record { value = z; rows = rows; columns = columns; entries = entries; depth = R.depth + 1; is_lined = false })
IsChild-made I D R h g z rows columns entries hh ez er ec is =
    let k : length rows ≡ count_of R - 1 = omega (arith, ap length er, length-remove R.rows h hh) in
    record {
      depth = refl;
      is_lined = refl;
      value = ez;
      rows = er;
      columns = ec;
      entries = λ r c hr hc. ap (λ n. entry n entries r c) k ∙ is.entries r c (omega arith) (omega arith);
    }

-- ---- a line

totals-within : (m : Limits) (xs : List ℤ) (n : ℕ) → n ≤ m.size → length xs ≡ n → unsigned_abs (total xs) ≤ length xs * m.sum → unsigned_abs (total xs) ≤ m.size * m.sum
totals-within m xs n h count bound =
    let more : length xs * m.sum ≤ m.size * m.sum = mul-le _ _ _ _ (omega (arith, count, h)) (omega arith) in
    omega (arith, bound, more)

-- the form that a line leads to is within its width
pub IsInReach-line : (m : Limits) (R : Form) (z : ℤ) (u v entries : List ℤ) → AreEnough m → IsInReach m R → R.is_lined ≡ false → length u ≡ count_of R → AllWithin m.dual u → AreLeast (count_of R) R.entries u v
    → unsigned_abs (total u) ≤ length u * m.sum → unsigned_abs (total v) ≤ length v * m.sum → z ≡ R.value +ℤ (total u +ℤ total v) → length entries ≡ count_of R * count_of R → AreEntries (count_of R) (less_both (count_of R) R.entries u v) entries
    → IsInReach m (record { value = z; rows = R.rows; columns = R.columns; entries = entries; depth = R.depth; is_lined = true })
IsInReach-line m R z u v entries enough r first long range least hu hv ez count is =
    let n = count_of R in
    let spread : IsSpread (reach m R.depth false) R.entries = subst (λ (b : Bool). IsSpread (reach m R.depth b) R.entries) first r.entries in
    let value : unsigned_abs R.value ≤ value_reach R.depth false = subst (λ (b : Bool). unsigned_abs R.value ≤ value_reach R.depth b) first r.value in
    let deep = r.deep in
    let tu = totals-within m u n (omega arith) long hu in
    let tv = totals-within m v n (omega arith) least.count hv in
    let room = enough.value in
    record {
      wide = r.wide;
      count = count;
      deep = r.deep;
      entries = IsSpread-wider (reach m R.depth false + 2 * m.dual) (reach m R.depth true) entries (omega arith) (IsSpread-line (reach m R.depth false) m.dual n R.entries u v entries r.count count spread range long least is);
      value = omega (arith, ints, value, tu, tv, room, ez);
    }

-- and that form is the one that the line leads to
pub IsLine-made : (R : Form) (z : ℤ) (u v entries : List ℤ) → length u ≡ count_of R → AreLeast (count_of R) R.entries u v → z ≡ R.value +ℤ (total u +ℤ total v) → AreEntries (count_of R) (less_both (count_of R) R.entries u v) entries
    → IsLine R (record { value = z; rows = R.rows; columns = R.columns; entries = entries; depth = R.depth; is_lined = true }) u v
IsLine-made R z u v entries long least ez is = record {
  least = least;
  rows = refl;
  columns = refl;
  depth = refl;
  is_lined = refl;
  value = ez ∙ ap₂ (λ a b. R.value +ℤ (a +ℤ b)) (ap (sum_to (λ r. get_or u r (pos 0))) long) (ap (sum_to (λ c. get_or v c (pos 0))) least.count);
  entries = is.entries;
}

-- and none of its entries is less than nothing
pub IsNonNegative-line : (m : Limits) (R : Form) (z : ℤ) (u v entries : List ℤ) → IsInReach m R → length u ≡ count_of R → AllWithin m.dual u → AreLeast (count_of R) R.entries u v → AreEntries (count_of R) (less_both (count_of R) R.entries u v) entries
    → IsNonNegative (record { value = z; rows = R.rows; columns = R.columns; entries = entries; depth = R.depth; is_lined = true })
IsNonNegative-line m R z u v entries r long range least is = record {
  each = λ i k hi hk.
      subst (λ (x : ℤ). pos 0 ≤ℤ x) (sym (is.entries i k hi hk)) (line-between (reach m R.depth R.is_lined) m.dual (count_of R) R.entries u v i k r.count r.entries range long least hi hk).0;
}

-- ---- a start

-- at the node of the duals, rows and columns have the numbers of the free ones
pub AreNumbers-first : (D : Duals) (x : Placement) (rows columns : List ℕ) → AreOf x D → AreFirst (length D.facilities) rows → AreFirst (length D.locations) columns → AreNumbers D x rows columns
AreNumbers-first D x rows columns of first second = record {
  row_count = first.count ∙ ap length of.facilities;
  column_count = second.count ∙ ap length of.locations;
  rows_within = λ r h. let below : r < length D.facilities = omega (arith, first.count) in omega (arith, first.each r below);
  columns_within = λ c h. let below : c < length D.locations = omega (arith, second.count) in omega (arith, second.each c below);
  facilities = λ r h. ap (λ k. get_or D.facilities k 0) (first.each r (omega (arith, first.count))) ∙ ap (λ (l : List ℕ). get_or l r 0) of.facilities;
  locations = λ c h. ap (λ k. get_or D.locations k 0) (second.each c (omega (arith, second.count))) ∙ ap (λ (l : List ℕ). get_or l c 0) of.locations;
}

-- an entry is the same by the numbers of the rows and the columns
own_is : (I : Problem) (D : Duals) (x : Placement) (rows columns : List ℕ) (r c : ℕ) → AreOf x D → AreFirst (length D.facilities) rows → AreFirst (length D.locations) columns → r < length D.facilities → c < length D.locations
    → own_entry I D x r c ≡ dual_entry I D x rows columns r c
own_is I D x rows columns r c of first second hr hc =
    let i : get_or rows r 0 ≡ r = first.each r hr in
    let k : get_or columns c 0 ≡ c = second.each c hc in
    let alphas : sum_but r (λ t. alpha_of D (get_or rows r 0) (get_or columns c 0) (get_or rows t 0)) (length rows) ≡ sum_but r (alpha_of D r c) (length D.facilities) =
    ap (sum_but r (λ t. alpha_of D (get_or rows r 0) (get_or columns c 0) (get_or rows t 0))) first.count
    ∙ sum_to-same (λ t. cond (nat_eq t r) (pos 0) (alpha_of D (get_or rows r 0) (get_or columns c 0) (get_or rows t 0))) (λ t. cond (nat_eq t r) (pos 0) (alpha_of D r c t)) (length D.facilities) (λ t below.
    ap₂ (λ a b. cond (nat_eq t r) (pos 0) (alpha_of D a b (get_or rows t 0))) i k ∙ ap (λ j. cond (nat_eq t r) (pos 0) (alpha_of D r c j)) (first.each t below)) in
    let betas : sum_but c (λ d. beta_of D (get_or rows r 0) (get_or columns c 0) (get_or columns d 0)) (length columns) ≡ sum_but c (beta_of D r c) (length D.locations) =
    ap (sum_but c (λ d. beta_of D (get_or rows r 0) (get_or columns c 0) (get_or columns d 0))) second.count
    ∙ sum_to-same (λ d. cond (nat_eq d c) (pos 0) (beta_of D (get_or rows r 0) (get_or columns c 0) (get_or columns d 0))) (λ d. cond (nat_eq d c) (pos 0) (beta_of D r c d)) (length D.locations) (λ d below.
    ap₂ (λ a b. cond (nat_eq d c) (pos 0) (beta_of D a b (get_or columns d 0))) i k ∙ ap (λ j. cond (nat_eq d c) (pos 0) (beta_of D r c j)) (second.each d below)) in
    let linear : pos D.scale *ℤ linear_cost I x (get_or D.facilities r 0) (get_or D.locations c 0) ≡ pos D.scale *ℤ linear_cost I x (get_or (free_facilities x) r 0) (get_or (free_locations x) c 0) =
    ap₂ (λ (f g : List ℕ). pos D.scale *ℤ linear_cost I x (get_or f r 0) (get_or g c 0)) of.facilities of.locations in
    omega (arith, ints, alphas, betas, linear)

-- the form that was made of these parts is that of the node by the duals alone
pub IsStart-made : (I : Problem) (D : Duals) (x : Placement) (z : ℤ) (rows columns : List ℕ) (entries : List ℤ) → length D.locations ≡ length D.facilities → AreOf x D → AreFirst (length D.facilities) rows → AreFirst (length D.locations) columns
    → z ≡ pos D.scale *ℤ fixed_cost_of I x → AreEntries (length D.facilities) (own_entry I D x) entries
    → IsStart I D x (record { value = z; rows = rows; columns = columns; entries = entries; depth = 0; is_lined = false })
IsStart-made I D x z rows columns entries same of first second ez is = record {
  numbers = AreNumbers-first D x rows columns of first second;
  depth = refl;
  is_lined = refl;
  value = ez;
  entries = λ r c hr hc.
      let below : r < length D.facilities = omega (arith, first.count) in
      let inside : c < length D.facilities = omega (arith, first.count) in
      ap (λ n. entry n entries r c) first.count ∙ is.entries r c below inside ∙ own_is I D x rows columns r c of first second below (omega (arith, same));
}

-- and it is within its width
pub IsInReach-start : (m : Limits) (I : Problem) (D : Duals) (x : Placement) (z : ℤ) (rows columns : List ℕ) (entries : List ℤ) → AreEnough m → AreDuals m D → IsInScale m I D.scale → IsPlacement x → I.size ≡ x.size → AreOf x D → AreFirst (length D.facilities) rows → AreFirst (length D.locations) columns
    → unsigned_abs z ≤ 10 ^ 34 → length entries ≡ length D.facilities * length D.facilities → AreEntries (length D.facilities) (own_entry I D x) entries
    → IsInReach m (record { value = z; rows = rows; columns = columns; entries = entries; depth = 0; is_lined = false })
IsInReach-start m I D x z rows columns entries enough d scale is size of first second hz count own =
    let F = length D.facilities in
    let all : F + length x.facilities ≡ x.size = omega (arith, ap length of.facilities, (facilities_of x is).count) in
    let within : (r c : ℕ) → r < F → c < F → unsigned_abs (entry F entries r c) ≤ m.start = λ r c hr hc.
    subst (λ (k : ℤ). unsigned_abs k ≤ m.start) (sym (own.entries r c hr hc)) (own_entry-within m I D x r c enough d scale is size (size ∙ sym of.size) all hr (omega (arith, d.same_count))) in
    record {
      wide = omega (arith, first.count, second.count, d.same_count);
      count = count ∙ ap₂ ◌*◌ (sym first.count) (sym first.count);
      deep = omega (arith, first.count, d.count, d.size);
      entries = IsSpread-from_entries (reach m 0 false) F entries count
          (λ r c hr hc. omega (arith, within r c hr hc))
          (λ r c q e hr hc hq he. let a = within r c hr hc in let b = within q e hq he in omega (arith, ints, a, b));
      value = omega (arith, hz);
    }

-- an entry of a form
pub entry_in_reach : (m : Limits) (R : Form) (r c : ℕ) → AreEnough m → IsInReach m R → r < count_of R → c < count_of R → unsigned_abs (at R r c) + (2 * m.pair + 2 * m.dual) ≤ m.reach
entry_in_reach m R r c enough h hr hc =
    omega (arith, entry-within (reach m R.depth R.is_lined) (count_of R) R.entries r c h.count h.entries hr hc, reach-within m R.depth R.is_lined enough (omega (arith, h.deep)))
