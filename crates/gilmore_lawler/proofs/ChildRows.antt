-- The rows of the distances of a child, of which each is its parent's, with the pair that is taken and without its distance.
use Rattle.std.proofs.Common.{◌≡◌, ℕ, ◌+◌, ◌-◌, ◌*◌, ◌<◌, ◌≤◌, ◌++◌, ◌∷◌, [], refl, sym, ◌∙◌, ap, ap₂, subst, arith, List, take, drop, length, get_or, inl, inr, append_assoc, append-nil}
use Rattle.std.specs.Prelude.{ℤ, pos, remove, ⊤, Option, None, Some, MatchOption}
use Rattle.std.specs.List.{flat_map}
use Rattle.std.proofs.lemmas.Bool.{cases_lt}
use Rattle.std.proofs.lemmas.Grind.{flat_map-append}
use Rattle.std.proofs.lemmas.List.{length-append, length-take-le, take_all, take_at, take_more, drop_at}
use Rattle.qap_cost.specs.Instance.{Problem, IsInstance, entry}
use Rattle.qap_cost.specs.Bijection.{AreDifferent}
use Rattle.qap_cost.specs.Placement.{ListsFree, free_below}
use Rattle.qap_cost.proofs.Placements.{ListsFree-free_below, AreDifferent-more}
use Rattle.gilmore_lawler.specs.declared.child_rows.LocationRows.{LocationRows}
use Rattle.gilmore_lawler.specs.declared.side.Side.TheVariants.{Distance}
use Rattle.gilmore_lawler.specs.FlowRows.{HasDistanceRows, HasLocationRows}
use Rattle.gilmore_lawler.specs.Levels.{AreRowsAt}
use Rattle.gilmore_lawler.specs.ReducedMatrix.{others}
use Rattle.gilmore_lawler.specs.Order.{IsArranged, IsDescending}
use Rattle.gilmore_lawler.specs.Table.{segment, IsTable, pair_with, linear_row, IsFactorRow}
use Rattle.gilmore_lawler.proofs.LeftOut.{IsDescending-remove, LeavesOut, LeavesOut-of, free_below-more}
use Rattle.gilmore_lawler.proofs.Skips.{skip, skip-before, skip-after, length-remove, get_or-remove}
use Rattle.gilmore_lawler.proofs.Tables.{HasFactors, HasFactors-more, length-linear_row, row_end-le}

-- where one more is placed, its pair comes behind the linear part
linear_row-more : (n : ℕ) (matrix : List ℤ) (placed : List ℕ) (i k : ℕ) → linear_row n matrix placed i ++ pair_with n matrix i k ≡ linear_row n matrix (placed ++ k ∷ []) i
linear_row-more n matrix placed i k =
    let pairs = flat_map (pair_with n matrix i) placed in
    ap (λ l. entry n matrix i i ∷ l)
    (ap (λ l. pairs ++ l) (sym (append-nil (pair_with n matrix i k))) ∙ sym (flat_map-append (pair_with n matrix i) placed (k ∷ [])))

-- the list of free locations has each of them once, ascending
pub listed : (I : Problem) (places free : List ℕ) (rows : List ℤ) → HasLocationRows I places free rows → ListsFree I.size places free
listed I places free rows h = subst (ListsFree I.size places) (sym h.are_free) (ListsFree-free_below I.size places h.different)

-- each row, with the list of the free ones
pub theirs : (I : Problem) (places free : List ℕ) (rows : List ℤ) → HasLocationRows I places free rows → IsTable (2 * length places + length free) (length free) (IsFactorRow I Distance places free) rows
theirs I places free rows h =
    subst (λ (fs : List ℕ). IsTable (2 * length places + length fs) (length fs) (IsFactorRow I Distance places fs) rows) (sym h.are_free) h.are_theirs.table

-- no more than 256 locations are taken or free
pub few : (I : Problem) (places free : List ℕ) (rows : List ℤ) → IsInstance I → HasLocationRows I places free rows → length places + length free ≤ 256
few I places free rows instance h = let count = (listed I places free rows h).count in omega (arith, count, instance.small)

-- the number of a row among the parent's
pub from_skip : (s r q : ℕ) → (r < s → q ≡ r) → (s ≤ r → q ≡ r + 1) → q ≡ skip s r
from_skip s r q before after =
    elim (cases_lt r s) [
      | inl less ↦ before less ∙ sym (skip-before s r less)
      | inr more ↦ omega (arith, after more, skip-after s r more)
    ]

-- the number of a row among the parent's is below how many rows the parent has
pub from_below : (s r q m : ℕ) → (r < s → q ≡ r) → (s ≤ r → q ≡ r + 1) → r < m - 1 → q < m
from_below s r q m before after h =
    elim (cases_lt r s) [
      | inl less ↦ omega (arith, before less)
      | inr more ↦ omega (arith, after more)
    ]

-- the two parts of a row
pub parts : (I : Problem) (places free : List ℕ) (q : ℕ) (row : List ℤ) (f : IsFactorRow I Distance places free q row) → (take (1 + 2 * length places) row ≡ linear_row I.size I.b places (get_or free q 0)) × (drop (1 + 2 * length places) row ≡ f.sorted)
parts I places free q row f =
    let linear = linear_row I.size I.b places (get_or free q 0) in
    let count : length linear ≡ 1 + 2 * length places = length-linear_row I.size I.b places (get_or free q 0) in (
      ap (take (1 + 2 * length places)) f.is ∙ take_at linear f.sorted (1 + 2 * length places) count,
      ap (drop (1 + 2 * length places)) f.is ∙ drop_at linear f.sorted (1 + 2 * length places) count,
    )

-- behind its entries with itself and with the taken locations, each row of the distances descends
pub row_falls : (I : Problem) (places free : List ℕ) (rows row : List ℤ) (q : ℕ) → HasLocationRows I places free rows → q < length free → row ≡ segment (2 * length places + length free) rows q → IsDescending (drop (1 + 2 * length places) row)
row_falls I places free rows row q h below is =
    let f : IsFactorRow I Distance places free q row = subst (IsFactorRow I Distance places free q) (sym is) ((theirs I places free rows h).rows q below) in
    subst IsDescending (sym (parts I places free q row f).1) f.ordered

-- a row more
pub child_more : (I : Problem) (places free : List ℕ) (rows row table new : List ℤ) (s r q : ℕ) → HasLocationRows I places free rows → s < length free → r < length free - 1 → q < length free → q ≡ skip s r → row ≡ segment (2 * length places + length free) rows q
    → HasFactors I Distance (places ++ get_or free s 0 ∷ []) (remove free s) r table
    → ((t : ℕ) → t < length (drop (1 + 2 * length places) row) → get_or (drop (1 + 2 * length places) row) t (pos 0) ≡ entry I.size I.b (get_or free q 0) (get_or free s 0) → new ≡ ((table ++ take (1 + 2 * length places) row) ++ pair_with I.size I.b (get_or free q 0) (get_or free s 0)) ++ remove (drop (1 + 2 * length places) row) t)
    → HasFactors I Distance (places ++ get_or free s 0 ∷ []) (remove free s) (r + 1) new
child_more I places free rows row table new s r q h hs hr below from is before written =
    let n = I.size in
    let k = get_or free s 0 in
    let i = get_or free q 0 in
    let more = places ++ k ∷ [] in
    let f : IsFactorRow I Distance places free q row = subst (IsFactorRow I Distance places free q) (sym is) ((theirs I places free rows h).rows q below) in
    let split = parts I places free q row f in
    let left : LeavesOut n I.b free s r f.sorted =
    LeavesOut-of n I.b free s r f.sorted hs (omega (arith, hr)) (subst (λ (j : ℕ). IsArranged (others n I.b free j) f.sorted) from f.moved) in
    let t = left.place in
    let value : get_or (drop (1 + 2 * length places) row) t (pos 0) ≡ entry n I.b i k =
    ap (λ (l : List ℤ). get_or l t (pos 0)) split.1 ∙ left.value ∙ ap (λ (j : ℕ). entry n I.b (get_or free j 0) k) (sym from) in
    let made = written t (subst (λ (l : List ℤ). t < length l) (sym split.1) left.inside) value in
    let linear = table ++ linear_row n I.b more i in
    let whole : new ≡ linear ++ remove f.sorted t =
    made
    ∙ ap₂ (λ (x y : List ℤ). ((table ++ x) ++ pair_with n I.b i k) ++ remove y t) split.0 split.1
    ∙ ap (λ (l : List ℤ). l ++ remove f.sorted t) (append_assoc table (linear_row n I.b places i) (pair_with n I.b i k) ∙ ap (λ (l : List ℤ). table ++ l) (linear_row-more n I.b places i k)) in
    let own : i ≡ get_or (remove free s) r 0 = ap (λ (j : ℕ). get_or free j 0) from ∙ sym (get_or-remove free s r 0 hs) in
    HasFactors-more I Distance more (remove free s) r i table linear (remove f.sorted t) new before (omega (arith, hr, length-remove free s hs)) own refl left.arranged
    (IsDescending-remove f.sorted t left.inside f.ordered) whole

-- there is room for a row more
pub room_for_child : (I : Problem) (places free : List ℕ) (s r end : ℕ) (row table : List ℤ) → HasFactors I Distance (places ++ get_or free s 0 ∷ []) (remove free s) r (take end table) → end ≤ length table → s < length free → r < length free - 1 → length row ≡ 2 * length places + length free
    → length table ≡ (length free - 1) * (2 * length places + length free + 1) → end + length row + 1 ≤ length table
room_for_child I places free s r end row table h within hs hr width room =
    let w = 2 * length places + length free + 1 in
    let count = length-remove free s hs in
    let more = length-append places (get_or free s 0 ∷ []) in
    let same : 2 * length (places ++ get_or free s 0 ∷ []) + length (remove free s) ≡ w = omega (arith, count, more) in
    let at : end ≡ r * w = sym (length-take-le end table within) ∙ h.rows.size ∙ ap (λ (k : ℕ). r * k) same in
    let inside = row_end-le r (length free - 1) w hr in
    omega (arith, at, inside, room, width)

-- the free ones that are left
left_free : (I : Problem) (places free : List ℕ) (rows : List ℤ) (s : ℕ) → HasLocationRows I places free rows → s < length free → remove free s ≡ free_below I.size (places ++ get_or free s 0 ∷ [])
left_free I places free rows s h hs =
    let known : s < length (free_below I.size places) = subst (λ (fs : List ℕ). s < length fs) h.are_free hs in
    ap (λ (fs : List ℕ). remove fs s) h.are_free
    ∙ sym (free_below-more I.size places s h.different known)
    ∙ ap (λ (fs : List ℕ). free_below I.size (places ++ get_or fs s 0 ∷ [])) (sym h.are_free)

-- all rows
pub child_done : (I : Problem) (places free : List ℕ) (rows table : List ℤ) (s r : ℕ) → HasLocationRows I places free rows → s < length free → r ≡ length free - 1 → HasFactors I Distance (places ++ get_or free s 0 ∷ []) (remove free s) r table → HasDistanceRows I (places ++ get_or free s 0 ∷ []) table
child_done I places free rows table s r h hs end made =
    let more = places ++ get_or free s 0 ∷ [] in
    let count : r ≡ length (remove free s) = omega (arith, length-remove free s hs, end) in
    let same = left_free I places free rows s h hs in
    let table_of : IsTable (2 * length more + length (remove free s)) (length (remove free s)) (IsFactorRow I Distance more (remove free s)) table =
    subst (λ (k : ℕ). IsTable (2 * length more + length (remove free s)) k (IsFactorRow I Distance more (remove free s)) table) count made.rows in
    record {
      table = subst (λ (fs : List ℕ). IsTable (2 * length more + length fs) (length fs) (IsFactorRow I Distance more fs) table) same table_of;
      range = made.range;
    }

-- the locations with one more, and the free ones without it
pub AreRowsAt-made : (I : Problem) (places free : List ℕ) (rows : List ℤ) (s : ℕ) → HasLocationRows I places free rows → s < length free → (made : LocationRows) → made.places.items ≡ places ++ get_or free s 0 ∷ [] → made.free.items ≡ remove free s
    → HasDistanceRows I (places ++ get_or free s 0 ∷ []) made.rows.items → AreRowsAt I (places ++ get_or free s 0 ∷ []) made
AreRowsAt-made I places free rows s h hs made at left told =
    let more = places ++ get_or free s 0 ∷ [] in
    let different : AreDifferent I.size more = AreDifferent-more I.size (get_or free s 0) places h.different ((listed I places free rows h).each s hs) in
    let is_left : made.free.items ≡ free_below I.size more = left ∙ left_free I places free rows s h hs in
    let known : HasLocationRows I more made.free.items made.rows.items = record { different = different; are_free = is_left; are_theirs = told } in
    record {
      at = at;
      are_theirs = subst (λ (taken : List ℕ). HasLocationRows I taken made.free.items made.rows.items) (sym at) known;
    }

-- a list that has one number behind those of another
pub one_behind : (A : Type 0) (taken free places : List ℕ) (o : Option ℕ) → length places - length taken ≡ 1 → take (length taken) places ≡ taken → MatchOption o A (λ s. (s < length free) × (get_or free s 0 ≡ get_or places (length taken) 0))
    → MatchOption o ⊤ (λ s. (s < length free) × (places ≡ taken ++ get_or free s 0 ∷ []))
one_behind A taken free places None count before h = tt
one_behind A taken free places (Some s) count before h = (
  h.0,
  sym (take_all (length taken + 1) places (omega (arith, count)))
      ∙ take_more places (length taken) 0 (omega (arith, count))
      ∙ ap₂ (λ (l : List ℕ) (x : ℕ). l ++ x ∷ []) before (sym h.1),
)
