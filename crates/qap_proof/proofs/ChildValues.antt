-- What the duals of a split yield for its children.
use Rattle.std.proofs.Common.{◌≡◌, ℕ, ◌+◌, ◌<◌, ◌≤◌, ◌++◌, [], ◌∷◌, List, length, length-append, get_or, ℤ, pos, unsigned_abs, to_z, of_z, ◌*◌, ◌^◌, sym, ◌∙◌, ap, ap₂, subst, inl, inr, arith}
use Rattle.std.specs.Prelude.{◌+ℤ◌, ◌-ℤ◌}
use Rattle.std.proofs.lemmas.Bool.{cases_lt}
use Rattle.std.specs.Int.{w128}
use Rattle.std.proofs.lemmas.Int.{ints, to_z-of_z, fits_signed_from_abs}
use Rattle.std.proofs.lemmas.List.{get_or_past, get_or_at, get_or_append_left}
use Rattle.qap_cost.specs.Instance.{Problem}
use Rattle.qap_cost.specs.Matrix.{Square, IsMatrix, DualsFit, dual_value, entry_of}
use Rattle.qap_cost.specs.Placement.{Placement, IsPlacement, IsFreeFacility, IsFreeLocation, free_facilities, free_locations, fixed_cost_of}
use Rattle.qap_cost.specs.Range.{AllWithin}
use Rattle.qap_cost.proofs.Placements.{ListsFree-free_below}
use Rattle.gilmore_lawler.specs.ReducedMatrix.{IsReduced}
use Rattle.qap_proof.specs.Cell.{IsCell, IsPlaceOf, own_on, others_on}
use Rattle.qap_proof.specs.Shape.{free_count}
use Rattle.qap_proof.specs.Tree.{Pair, facility_on, location_on}
use Rattle.qap_proof.specs.Valid.{Reaches}
use Rattle.qap_proof.specs.declared.side.Side.{Side}
use Rattle.qap_proof.specs.declared.side.Side.TheVariants.{Facility, Location}

-- what is read at any place of a list within a limit is within it: past the list's end it is 0
pub AllWithin-at : (limit : ℕ) (xs : List ℤ) (j : ℕ) → AllWithin limit xs → unsigned_abs (get_or xs j (pos 0)) ≤ limit
AllWithin-at limit xs j h =
    elim (cases_lt j (length xs)) [
      | inl below ↦ h.each j below
      | inr past ↦ let none = get_or_past xs j (pos 0) past in omega (arith, ap unsigned_abs none)
    ]

-- as many facilities are free as locations
pub free_counts : (x : Placement) → IsPlacement x → (length (free_facilities x) ≡ free_count x) × (length (free_locations x) ≡ free_count x)
free_counts x h =
    let f = (ListsFree-free_below x.size x.facilities h.facilities).count in
    let l = (ListsFree-free_below x.size x.places h.places).count in
    (omega (arith, f), omega (arith, l, h.paired))

-- those that a split has children for are free
pub other_location : (side : Side) (x : Placement) (others : List ℕ) (c : ℕ) → IsPlacement x → side ≡ Facility → others ≡ others_on side x → c < length others → IsFreeLocation x (get_or others c 0)
other_location side x others c h is listed below =
    let free : others ≡ free_locations x = listed ∙ ap (λ (s : Side). others_on s x) is in
    subst (λ (l : List ℕ). IsFreeLocation x (get_or l c 0)) (sym free) ((ListsFree-free_below x.size x.places h.places).each c (omega (arith, below, ap length free)))

-- the facility that a child of a split on a location places is free
pub other_facility : (side : Side) (x : Placement) (others : List ℕ) (c : ℕ) → IsPlacement x → side ≡ Location → others ≡ others_on side x → c < length others → IsFreeFacility x (get_or others c 0)
other_facility side x others c h is listed below =
    let free : others ≡ free_facilities x = listed ∙ ap (λ (s : Side). others_on s x) is in
    subst (λ (l : List ℕ). IsFreeFacility x (get_or l c 0)) (sym free) ((ListsFree-free_below x.size x.facilities h.facilities).each c (omega (arith, below, ap length free)))

-- there are as many of them as are free
pub others_count : (side : Side) (x : Placement) → IsPlacement x → length (others_on side x) ≡ free_count x
others_count Facility x h = (free_counts x h).1
others_count Location x h = (free_counts x h).0

-- the cell of a child is in the reduced matrix, at the facility and the location that the child puts together
pub record IsAt (x : Placement) (f k row column : ℕ) : Type 0 where
  pub row_within : row < length (free_facilities x)
  pub row_of : get_or (free_facilities x) row 0 ≡ f
  pub column_within : column < length (free_locations x)
  pub column_of : get_or (free_locations x) column 0 ≡ k

-- the cell of a child is in the row of its facility and the column of its location
pub IsAt-cell : (side : Side) (x : Placement) (i own c row column : ℕ) → IsPlacement x → IsPlaceOf (own_on side x) i own → c < free_count x → IsCell side own c row column
    → IsAt x (facility_on side x i c) (location_on side x i c) row column
IsAt-cell Facility x i own c row column placement place below cell = record {
  row_within = omega (arith, cell.0, place.within);
  row_of = ap (λ r. get_or (free_facilities x) r 0) cell.0 ∙ place.is;
  column_within = omega (arith, cell.1, below, (free_counts x placement).1);
  column_of = ap (λ r. get_or (free_locations x) r 0) cell.1;
}
IsAt-cell Location x k own c row column placement place below cell = record {
  row_within = omega (arith, cell.0, below, (free_counts x placement).0);
  row_of = ap (λ r. get_or (free_facilities x) r 0) cell.0;
  column_within = omega (arith, cell.1, place.within);
  column_of = ap (λ r. get_or (free_locations x) r 0) cell.1 ∙ place.is;
}

-- what fitting duals yield for the pair of a cell: their value, with the entry there in the place of its two duals
pub Reaches-at : (I : Problem) (x : Placement) (M : Square) (d : Pair) (f k row column : ℕ) (value : ℤ) → IsMatrix M → IsReduced I x M → DualsFit M d.u d.v → IsAt x f k row column
    → value ≡ fixed_cost_of I x +ℤ dual_value d.u d.v +ℤ (entry_of M row column -ℤ get_or d.u row (pos 0) -ℤ get_or d.v column (pos 0)) → Reaches I x d f k value
Reaches-at I x M d f k row column value square reduced fit at is = record {
  fits = record { matrix = M; square = square; reduced = reduced; fits = fit };
  row = row;
  row_within = at.row_within;
  row_of = at.row_of;
  column = column;
  column_within = at.column_within;
  column_of = at.column_of;
  is = omega (arith, ints, is);
}

-- one value more
pub values_more : (P : ℕ → ℤ → Type 0) (xs ys : List ℤ) (n : ℕ) (value : ℤ) → length xs ≡ n → ((c : ℕ) → c < n → P c (get_or xs c (pos 0))) → ys ≡ xs ++ value ∷ [] → P n value
    → (length ys ≡ n + 1) × ((c : ℕ) → c < n + 1 → P c (get_or ys c (pos 0)))
values_more P xs ys n value long each is here = (
  omega (arith, ap length is, length-append xs (value ∷ []), long),
  λ c below.
      elim (cases_lt c n) [
        | inl before ↦
            subst (P c) (sym (ap (λ l. get_or l c (pos 0)) is ∙ get_or_append_left xs (value ∷ []) (pos 0) c (omega (arith, before, long)))) (each c before)
        | inr past ↦
            let last : n ≡ c = omega (arith, past, below) in
            let at : get_or ys c (pos 0) ≡ value = ap (λ l. get_or l c (pos 0)) is ∙ get_or_at xs value [] (pos 0) c (long ∙ last) in
            subst (P c) (sym at) (subst (λ (k : ℕ). P k value) last here)
      ],
)

-- the sum of three numbers as 128 bits hold it
reads_sum : (z : ℤ) → unsigned_abs z ≤ 10 ^ 27 → to_z w128 (of_z w128 z) ≡ z
reads_sum z small = to_z-of_z w128 z (fits_signed_from_abs w128 z (omega arith))

-- the sum of a cost of placed facilities and a value of duals, both in range, is exact in 128 bits
pub sum_of_two : (f d : ℤ) → unsigned_abs f ≤ 65536 * 10 ^ 18 → unsigned_abs d ≤ 512 * 10 ^ 24
    → to_z w128 (of_z w128 (to_z w128 (of_z w128 f) +ℤ to_z w128 (of_z w128 d))) ≡ f +ℤ d
sum_of_two f d f_small d_small =
    let f_is = reads_sum f (omega (arith, f_small)) in
    let d_is = reads_sum d (omega (arith, d_small)) in
    let two_is = reads_sum (f +ℤ d) (omega (arith, ints, f_small, d_small)) in
    ap (λ z. to_z w128 (of_z w128 z)) (ap₂ (λ y z. y +ℤ z) f_is d_is) ∙ two_is

-- the same with a third number, from -3 * 10^24 to 3 * 10^24
pub sum_of_three : (f d m : ℤ) → unsigned_abs f ≤ 65536 * 10 ^ 18 → unsigned_abs d ≤ 512 * 10 ^ 24 → unsigned_abs m ≤ 3 * 10 ^ 24
    → to_z w128 (of_z w128 (to_z w128 (of_z w128 (to_z w128 (of_z w128 f) +ℤ to_z w128 (of_z w128 d))) +ℤ to_z w128 (of_z w128 m))) ≡ f +ℤ d +ℤ m
sum_of_three f d m f_small d_small m_small =
    let m_is = reads_sum m (omega (arith, m_small)) in
    let three_is = reads_sum (f +ℤ d +ℤ m) (omega (arith, ints, f_small, d_small, m_small)) in
    ap (λ z. to_z w128 (of_z w128 z)) (ap₂ (λ y z. y +ℤ z) (sum_of_two f d f_small d_small) m_is) ∙ three_is
