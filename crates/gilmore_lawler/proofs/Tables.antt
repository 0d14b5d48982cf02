-- Lists of rows of one length: a row more, and a row read; and numbers that stay in the range of entries.
use Rattle.std.proofs.Common.{◌≡◌, ℕ, suc, ◌+◌, ◌-◌, ◌*◌, ◌/◌, ◌%◌, ◌<◌, ◌≤◌, ◌++◌, ◌∷◌, [], refl, sym, ◌∙◌, ap, subst, arith, List, map, take, drop, length, get_or, inl, inr, append_assoc}
use Rattle.std.specs.Prelude.{ℤ, pos, remove, unsigned_abs}
use Rattle.std.specs.List.{flat_map}
use Rattle.std.proofs.lemmas.Bool.{cases_lt, cases_eq}
use Rattle.std.proofs.lemmas.Nat.{mul-le, mod_below}
use Rattle.std.proofs.Math.Nat.{div-add-mod, mul_comm}
use Rattle.std.proofs.lemmas.List.{length-append, length-map, length-drop, length-take-le, drop-append-le, take-append-le, drop_at, take_all, get_or_append_left, get_or-append_right, get_or-map, get_or_past, get_or-take, get_or-drop}
use Rattle.qap_cost.specs.Instance.{Problem, IsInstance, entry}
use Rattle.qap_cost.specs.Range.{AllInRange, AllWithin}
use Rattle.gilmore_lawler.specs.declared.side.Side.{Side}
use Rattle.gilmore_lawler.specs.declared.side.Side.TheVariants.{Flow, Distance}
use Rattle.gilmore_lawler.specs.ReducedMatrix.{others}
use Rattle.gilmore_lawler.specs.Table.{segment, IsTable, matrix_of, IsOrdered, pair_with, linear_row, IsFactorRow}
use Rattle.gilmore_lawler.proofs.OneMatrix.{positive_root, row_below}
use Rattle.gilmore_lawler.specs.Order.{IsArranged}
use Rattle.gilmore_lawler.proofs.Rearrangement.{AllWithin-arranged}
use Rattle.gilmore_lawler.proofs.Skips.{length-remove}

-- a row stands before the rows after it
pub row_end-le : (r k w : ℕ) → r < k → r * w + w ≤ k * w
row_end-le r k w h =
    let e : suc r * w ≤ k * w = mul-le _ _ _ _ h (omega arith) in
    omega (arith, e)

segment-before : {X : Type 0} (w k r : ℕ) (xs row : List X) → r < k → length xs ≡ k * w → segment w (xs ++ row) r ≡ segment w xs r
segment-before w k r xs row h count =
    let inside = row_end-le r k w h in
    ap (take w) (drop-append-le (r * w) xs row (omega (arith, inside)))
    ∙ take-append-le w (drop (r * w) xs) row (omega (arith, inside, length-drop (r * w) xs))

segment-last : {X : Type 0} (w k : ℕ) (xs row : List X) → length xs ≡ k * w → length row ≡ w → segment w (xs ++ row) k ≡ row
segment-last w k xs row count width = ap (take w) (drop_at xs row (k * w) count) ∙ take_all w row (omega arith)

-- the empty list is a table of no rows
pub IsTable-none : {X : Type 0} (w : ℕ) (P : ℕ → List X → Type 0) → IsTable w 0 P []
IsTable-none w P = record { size = omega arith; rows = λ r h. absurd (omega arith) }

-- a row more
pub IsTable-more : {X : Type 0} (w k : ℕ) (P : ℕ → List X → Type 0) (xs row : List X) → IsTable w k P xs → length row ≡ w → P k row → IsTable w (k + 1) P (xs ++ row)
IsTable-more w k P xs row t width here = record {
  size = omega (arith, length-append xs row, t.size);
  rows = λ r h.
      elim (cases_eq r k) [
        | inl same ↦
            let last : P k (segment w (xs ++ row) k) = subst (P k) (sym (segment-last w k xs row t.size width)) here in
            subst (λ (j : ℕ). P j (segment w (xs ++ row) j)) (sym same) last
        | inr other ↦
            let before : r < k = omega arith in
            subst (P r) (sym (segment-before w k r xs row before t.size)) (t.rows r before)
      ];
}

-- each row of a table has its width
pub length-segment : {X : Type 0} (w k r : ℕ) (xs : List X) → r < k → length xs ≡ k * w → length (segment w xs r) ≡ w
length-segment w k r xs h count =
    let inside = row_end-le r k w h in
    length-take-le w (drop (r * w) xs) (omega (arith, inside, length-drop (r * w) xs))

-- a row of a table, read at a place
pub get_or-segment : (w r j : ℕ) (xs : List ℤ) → j < w → get_or (segment w xs r) j (pos 0) ≡ get_or xs (r * w + j) (pos 0)
get_or-segment w r j xs h = get_or-take w (drop (r * w) xs) j (pos 0) h ∙ get_or-drop (r * w) xs j (pos 0)

-- the numbers of the empty list are within any limit
pub AllWithin-none : (l : ℕ) → AllWithin l []
AllWithin-none l = record { each = λ j h. absurd (omega arith) }

-- where the numbers of two lists are within a limit, so are those of both together
pub AllWithin-append : (l : ℕ) (xs ys : List ℤ) → AllWithin l xs → AllWithin l ys → AllWithin l (xs ++ ys)
AllWithin-append l xs ys x y = record {
  each = λ j h.
      elim (cases_lt j (length xs)) [
        | inl less ↦ subst (λ (z : ℤ). unsigned_abs z ≤ l) (sym (get_or_append_left xs ys (pos 0) j less)) (x.each j less)
        | inr more ↦
            subst (λ (z : ℤ). unsigned_abs z ≤ l) (sym (get_or-append_right xs ys (length xs) j (pos 0) refl more)) (y.each (j - length xs) (omega (arith, length-append xs ys)))
      ];
}

AllWithin-map : (l : ℕ) (f : ℕ → ℤ) (xs : List ℕ) → ((k : ℕ) → unsigned_abs (f k) ≤ l) → AllWithin l (map f xs)
AllWithin-map l f xs h = record {
  each = λ j below. subst (λ (z : ℤ). unsigned_abs z ≤ l) (sym (get_or-map f xs j 0 (pos 0) (omega (arith, length-map xs f)))) (h (get_or xs j 0));
}

-- where the numbers of a table are within a limit, so are those of each row
pub AllWithin-segment : (l w k r : ℕ) (xs : List ℤ) → r < k → length xs ≡ k * w → AllWithin l xs → AllWithin l (segment w xs r)
AllWithin-segment l w k r xs h count x = record {
  each = λ j below.
      let width = length-segment w k r xs h count in
      let inside = row_end-le r k w h in
      subst (λ (z : ℤ). unsigned_abs z ≤ l) (sym (get_or-segment w r j xs (omega (arith, width)))) (x.each (r * w + j) (omega (arith, width, inside)));
}

within-read : (l : ℕ) (xs : List ℤ) (k : ℕ) → AllWithin l xs → unsigned_abs (get_or xs k (pos 0)) ≤ l
within-read l xs k h =
    elim (cases_lt k (length xs)) [
      | inl less ↦ h.each k less
      | inr more ↦ subst (λ (z : ℤ). unsigned_abs z ≤ l) (sym (get_or_past xs k (pos 0) (omega arith))) (omega arith)
    ]

AllWithin-pairs : (l n : ℕ) (matrix : List ℤ) (placed : List ℕ) (i : ℕ) → AllWithin l matrix → AllWithin l (flat_map (pair_with n matrix i) placed)
AllWithin-pairs l n matrix [] i h = AllWithin-none l
AllWithin-pairs l n matrix (g ∷ placed) i h =
    let there : AllWithin l (entry n matrix i g ∷ []) = AllWithin-map l (entry n matrix i) (g ∷ []) (λ k. within-read l matrix (i * n + k) h) in
    let back : AllWithin l (entry n matrix g i ∷ []) = AllWithin-map l (λ k. entry n matrix k i) (g ∷ []) (λ k. within-read l matrix (k * n + i) h) in
    AllWithin-append l (entry n matrix i g ∷ entry n matrix g i ∷ []) (flat_map (pair_with n matrix i) placed)
    (AllWithin-append l (entry n matrix i g ∷ []) (entry n matrix g i ∷ []) there back)
    (AllWithin-pairs l n matrix placed i h)

-- the entries of i with itself and with the placed ones are within the limit of the matrix
pub AllWithin-linear_row : (l n : ℕ) (matrix : List ℤ) (placed : List ℕ) (i : ℕ) → AllWithin l matrix → AllWithin l (linear_row n matrix placed i)
AllWithin-linear_row l n matrix placed i h =
    let own : AllWithin l (entry n matrix i i ∷ []) = AllWithin-map l (λ k. entry n matrix i k) (i ∷ []) (λ k. within-read l matrix (i * n + k) h) in
    AllWithin-append l (entry n matrix i i ∷ []) (flat_map (pair_with n matrix i) placed) own (AllWithin-pairs l n matrix placed i h)

AllWithin-others : (l n : ℕ) (matrix : List ℤ) (free : List ℕ) (r : ℕ) → AllWithin l matrix → AllWithin l (others n matrix free r)
AllWithin-others l n matrix free r h =
    AllWithin-map l (entry n matrix (get_or free r 0)) (remove free r) (λ k. within-read l matrix (get_or free r 0 * n + k) h)

-- the entries of an instance lie in their range
pub AllInRange-matrix : (I : Problem) (side : Side) → IsInstance I → AllInRange (matrix_of I side)
AllInRange-matrix I Flow h = record { each = λ j below. h.a_range j (omega (arith, h.a_count)) }
AllInRange-matrix I Distance h = record { each = λ j below. h.b_range j (omega (arith, h.b_count)) }

-- the matrix of either side has an entry for each pair
pub length-matrix : (I : Problem) (side : Side) → IsInstance I → length (matrix_of I side) ≡ I.size * I.size
length-matrix I Flow h = h.a_count
length-matrix I Distance h = h.b_count

-- a matrix lies within a limit where each of its entries does
pub AllWithin-entries : (l n : ℕ) (matrix : List ℤ) → length matrix ≡ n * n → ((i j : ℕ) → i < n → j < n → unsigned_abs (entry n matrix i j) ≤ l) → AllWithin l matrix
AllWithin-entries l n matrix count h = record {
  each = λ k below.
      let inside : k < n * n = omega (arith, count) in
      let i = k / n in
      let j = k % n in
      let at : i * n + j ≡ k = omega (arith, div-add-mod k n, mul_comm n i) in
      subst (λ (m : ℕ). unsigned_abs (get_or matrix m (pos 0)) ≤ l) at (h i j (row_below n i j k inside at) (mod_below k n (positive_root n k inside)));
}

length-pairs : (n : ℕ) (matrix : List ℤ) (placed : List ℕ) (i : ℕ) → length (flat_map (pair_with n matrix i) placed) ≡ 2 * length placed
length-pairs n matrix [] i = refl
length-pairs n matrix (h ∷ placed) i =
    omega (arith, length-append (pair_with n matrix i h) (flat_map (pair_with n matrix i) placed), length-pairs n matrix placed i)

-- it has one entry of i with itself, and two with each placed one
pub length-linear_row : (n : ℕ) (matrix : List ℤ) (placed : List ℕ) (i : ℕ) → length (linear_row n matrix placed i) ≡ 1 + 2 * length placed
length-linear_row n matrix placed i = omega (arith, length-pairs n matrix placed i)

-- a free one has one other fewer than there are free ones
pub length-others : (n : ℕ) (matrix : List ℤ) (free : List ℕ) (r : ℕ) → r < length free → length (others n matrix free r) + 1 ≡ length free
length-others n matrix free r h =
    omega (arith, length-map (remove free r) (entry n matrix (get_or free r 0)), length-remove free r h)

-- what the loop over the free ones keeps
pub record HasFactors (I : Problem) (side : Side) (placed free : List ℕ) (r : ℕ) (table : List ℤ) : Type 0 where
  pub rows : IsTable (2 * length placed + length free) r (IsFactorRow I side placed free) table
  pub range : (l : ℕ) → AllWithin l (matrix_of I side) → AllWithin l table

-- before the first free one the table is empty
pub HasFactors-none : (I : Problem) (side : Side) (placed free : List ℕ) → HasFactors I side placed free 0 []
HasFactors-none I side placed free = record {
  rows = IsTable-none (2 * length placed + length free) (IsFactorRow I side placed free);
  range = λ l h. AllWithin-none l;
}

-- with its linear part and its others in order added, the table has the row of free one r
pub HasFactors-more : (I : Problem) (side : Side) (placed free : List ℕ) (r i : ℕ) (table linear sorted new : List ℤ) → HasFactors I side placed free r table → r < length free → i ≡ get_or free r 0 → linear ≡ table ++ linear_row I.size (matrix_of I side) placed i → IsArranged (others I.size (matrix_of I side) free r) sorted → IsOrdered side sorted → new ≡ linear ++ sorted → HasFactors I side placed free (r + 1) new
HasFactors-more I side placed free r i table linear sorted new h below e first moved ordered whole =
    let n = I.size in
    let matrix : List ℤ = matrix_of I side in
    let row = linear_row n matrix placed (get_or free r 0) ++ sorted in
    let new_is : new ≡ table ++ row =
    whole
    ∙ ap (λ xs. xs ++ sorted) (first ∙ ap (λ k. table ++ linear_row n matrix placed k) e)
    ∙ append_assoc table (linear_row n matrix placed (get_or free r 0)) sorted in
    let width : length row ≡ 2 * length placed + length free =
    omega (
      arith,
      length-append (linear_row n matrix placed (get_or free r 0)) sorted,
      length-linear_row n matrix placed (get_or free r 0),
      moved.same_length,
      length-others n matrix free r below,
    ) in
    let here : IsFactorRow I side placed free r row = record { sorted = sorted; moved = moved; ordered = ordered; is = refl } in
    let range : (l : ℕ) → AllWithin l matrix → AllWithin l row = λ l within.
    AllWithin-append l (linear_row n matrix placed (get_or free r 0)) sorted
    (AllWithin-linear_row l n matrix placed (get_or free r 0) within)
    (AllWithin-arranged l (others n matrix free r) sorted moved (AllWithin-others l n matrix free r within)) in
    subst (HasFactors I side placed free (r + 1)) (sym new_is) (record {
      rows = IsTable-more (2 * length placed + length free) r (IsFactorRow I side placed free) table row h.rows width here;
      range = λ l within. AllWithin-append l table row (h.range l within) (range l within);
    })

-- behind the rows so far there is room for what is placed, and behind that for a row of the matrix
pub room_for_row : (I : Problem) (side : Side) (placed free : List ℕ) (r end : ℕ) (table : List ℤ) → HasFactors I side placed free r (take end table) → end ≤ length table → r < length free → length table ≡ length free * (2 * length placed + length free) + I.size
    → (end + 1 + 2 * length placed ≤ length table) × (end + 1 + 2 * length placed + I.size ≤ length table)
room_for_row I side placed free r end table h within below room =
    let w = 2 * length placed + length free in
    let at : end ≡ r * w = sym (length-take-le end table within) ∙ h.rows.size in
    let inside = row_end-le r (length free) w below in
    let fits : end + 1 + 2 * length placed + I.size ≤ length table = omega (arith, at, inside, room, below) in (
      omega (arith, fits),
      fits,
    )
