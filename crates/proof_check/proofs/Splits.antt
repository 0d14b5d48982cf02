-- The children of a split: what they put together is free.
use Rattle.std.proofs.Common.{◌≡◌, ℕ, ◌+◌, ◌<◌, List, length, get_or, sym, ap, subst, arith}
use Rattle.qap_cost.specs.Placement.{Placement, IsPlacement, IsFreeFacility, IsFreeLocation, free_facilities, free_locations}
use Rattle.pair_duals.proofs.Seatings.{facilities_of, locations_of}
use Rattle.qap_proof.specs.Cell.{own_on}
use Rattle.qap_proof.specs.declared.side.Side.{Side}
use Rattle.qap_proof.specs.declared.side.Side.TheVariants.{Facility, Location}
use Rattle.proof_tree.proofs.Splits.{IsCellOf-child}
use Rattle.proof_tree.specs.Tree.{column_of, row_of}
use Rattle.proof_check.specs.Image.{IsSplitOf}

-- there is a child for each free one
pub in_rows : (y : Placement) (facilities : List ℕ) (c : ℕ) → IsPlacement y → facilities ≡ free_facilities y → c + length y.facilities < y.size → c < length facilities
in_rows y facilities c is rows few = omega (arith, (facilities_of y is).count, ap length rows)

-- the same for the free locations
pub in_columns : (y : Placement) (locations : List ℕ) (c : ℕ) → IsPlacement y → locations ≡ free_locations y → c + length y.facilities < y.size → c < length locations
in_columns y locations c is columns few = omega (arith, (locations_of y is).count, is.paired, ap length columns)

-- each facility of the list is free
pub row_free : (y : Placement) (facilities : List ℕ) (h : ℕ) → IsPlacement y → facilities ≡ free_facilities y → h < length facilities → IsFreeFacility y (get_or facilities h 0)
row_free y facilities h is rows inside =
    subst (λ (xs : List ℕ). IsFreeFacility y (get_or xs h 0)) (sym rows) ((facilities_of y is).each h (omega (arith, ap length rows)))

-- each location of the list is free
pub column_free : (y : Placement) (locations : List ℕ) (g : ℕ) → IsPlacement y → locations ≡ free_locations y → g < length locations → IsFreeLocation y (get_or locations g 0)
column_free y locations g is columns inside =
    subst (λ (xs : List ℕ). IsFreeLocation y (get_or xs g 0)) (sym columns) ((locations_of y is).each g (omega (arith, ap length columns)))

-- the facility that a split is on is in the list
pub own_in_rows : (y : Placement) (facilities locations : List ℕ) (side : Side) (own : ℕ) → side ≡ Facility → IsSplitOf y facilities locations side own → own < length facilities
own_in_rows y facilities locations side own is split =
    let inside = subst (λ (s : Side). own < length (own_on s y)) is split.own_in in
    omega (arith, ap length split.rows, inside)

-- the location that a split is on is in the list
pub own_in_columns : (y : Placement) (facilities locations : List ℕ) (side : Side) (own : ℕ) → side ≡ Location → IsSplitOf y facilities locations side own → own < length locations
own_in_columns y facilities locations side own is split =
    let inside = subst (λ (s : Side). own < length (own_on s y)) is split.own_in in
    omega (arith, ap length split.columns, inside)

-- the cell of a child among the lists of its split
pub record IsListed (facilities locations : List ℕ) (h g : ℕ) : Type 0 where
  pub row : h < length facilities
  pub column : g < length locations

-- each child of a split has its cell among the lists
pub split_cell : (y : Placement) (facilities locations : List ℕ) (side : Side) (own c : ℕ) → IsSplitOf y facilities locations side own → c + length y.facilities < y.size → IsListed facilities locations (row_of side own c) (column_of side own c)
split_cell y facilities locations side own c h few =
    let cell = IsCellOf-child side y own c h.placement h.own_in few in
    record { row = omega (arith, cell.row, ap length h.rows); column = omega (arith, cell.column, ap length h.columns) }
