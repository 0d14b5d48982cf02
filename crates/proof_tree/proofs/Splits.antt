-- The children of a split: each completion of the node completes one of them, and what is bounded for one is for its images.
use Rattle.std.proofs.Common.{◌≡◌, ℕ, ◌+◌, ◌<◌, List, length, get_or, ℤ, sym, ◌∙◌, ap, subst, arith}
use Rattle.std.specs.Prelude.{◌≤ℤ◌}
use Rattle.qap_cost.specs.Instance.{Problem}
use Rattle.qap_cost.specs.Objective.{cost_of}
use Rattle.qap_cost.specs.Placement.{Placement, IsPlacement, IsFreeFacility, Completes, free_facilities, free_locations, placing}
use Rattle.qap_cost.proofs.Bijections.{each_reached}
use Rattle.qap_cost.proofs.Nodes.{child_of as placed_child, child_is, parent_of}
use Rattle.qap_cost.proofs.Placements.{IsPlacement-placing}
use Rattle.pair_duals.specs.Seats.{child_at}
use Rattle.pair_duals.proofs.Seatings.{facilities_of, locations_of, same_count}
use Rattle.qap_proof.proofs.Images.{HasFellow, HasFellow-by_locations, HasFellow-by_facilities}
use Rattle.qap_proof.proofs.Validity.{Bounded}
use Rattle.qap_proof.specs.Cell.{own_on}
use Rattle.qap_proof.specs.declared.side.Side.{Side}
use Rattle.qap_proof.specs.declared.side.Side.TheVariants.{Facility, Location}
use Rattle.proof_tree.specs.Image.{IsImage}
use Rattle.proof_tree.specs.Tree.{Image, by_one, by_both, row_of, column_of, child_on}
use Rattle.proof_tree.proofs.Images.{HasFellow-by_both}

-- the pair that a child puts together is among the free ones
pub record IsCellOf (y : Placement) (h g : ℕ) : Type 0 where
  pub row : h < length (free_facilities y)
  pub column : g < length (free_locations y)

-- each child of a split puts a free facility and a free location together
pub IsCellOf-child : (side : Side) (y : Placement) (own c : ℕ) → IsPlacement y → own < length (own_on side y) → c + length y.facilities < y.size → IsCellOf y (row_of side own c) (column_of side own c)
IsCellOf-child Facility y own c is free few =
    let listed = facilities_of y is in
    record { row = free; column = omega (arith, listed.count, same_count y is) }
IsCellOf-child Location y own c is free few =
    let listed = facilities_of y is in
    record { row = omega (arith, listed.count); column = free }

-- a placement with one more pair of free ones is a placement
pub IsPlacement-cell : (y : Placement) (h g : ℕ) → IsPlacement y → IsCellOf y h g → IsPlacement (child_at y h g)
IsPlacement-cell y h g is cell =
    IsPlacement-placing y (get_or (free_facilities y) h 0) (get_or (free_locations y) g 0) is ((facilities_of y is).each h cell.row) ((locations_of y is).each g cell.column)

-- what completes the node completes one of the children
pub child_found : (side : Side) (y : Placement) (own : ℕ) (q : List ℕ) → IsPlacement y → own < length (own_on side y) → Completes y q
    → (c : ℕ) × (c + length y.facilities < y.size) × Completes (child_on side y own c) q
child_found Facility y own q is free done =
    let i = get_or (free_facilities y) own 0 in
    let listed = locations_of y is in
    let next = placed_child y i q is ((facilities_of y is).each own free) done in
    let at = listed.all (get_or q i 0) next.0 in
    (at.0, omega (arith, at.1, listed.count, is.paired), subst (λ (k : ℕ). Completes (placing y i k) q) (sym at.2) next.1)
child_found Location y own q is free done =
    let k = get_or (free_locations y) own 0 in
    let k_free = (locations_of y is).each own free in
    let listed = facilities_of y is in
    let found = each_reached q k done.bijection (omega (arith, done.same_size, k_free.within)) in
    let i = found.0 in
    let i_free : IsFreeFacility y i = record {
      within = omega (arith, done.same_size, found.1);
      untaken = λ t below same. k_free.untaken t (omega (arith, is.paired)) (sym (done.agrees t below) ∙ ap (λ j. get_or q j 0) same ∙ found.2);
    } in
    let next = placed_child y i q is i_free done in
    let at = listed.all i i_free in (
      at.0,
      omega (arith, at.1, listed.count),
      subst (λ (f : ℕ). Completes (placing y f k) q) (sym at.2) (subst (λ (l : ℕ). Completes (placing y i l) q) found.2 next.1),
    )

-- a permutation of the same cost completes another child
fellow_bounded : (I : Problem) (g : ℤ) (y : Placement) (h l : ℕ) (p : List ℕ) (cell : IsCellOf y h l) → IsPlacement y → Bounded I g (child_at y h l)
    → HasFellow I y p (get_or (free_facilities y) h 0) (get_or (free_locations y) l 0) → g ≤ℤ cost_of I p
fellow_bounded I g y h l p cell is bounded fellow =
    let f = get_or (free_facilities y) h 0 in
    let next = (placed_child y f fellow.other is ((facilities_of y is).each h cell.row) fellow.completes).1 in
    let least = bounded fellow.other (subst (λ (k : ℕ). Completes (placing y f k) fellow.other) fellow.stands next) in
    subst (λ z. g ≤ℤ z) fellow.cost least

-- an image of a bounded child is bounded
pub image_bounded : (side : Side) (I : Problem) (g : ℤ) (y : Placement) (own c : ℕ) (m : Image) → IsPlacement y → I.size ≡ y.size → own < length (own_on side y) → c + length y.facilities < y.size
    → IsImage I y side own c m → ((j : ℕ) → j < c → Bounded I g (child_on side y own j)) → Bounded I g (child_on side y own c)
image_bounded Facility I g y own c (by_one j m) is same free few image earlier p done =
    let cell = IsCellOf-child Facility y own j is free (omega (arith, image.0)) in
    let i = get_or (free_facilities y) own 0 in
    let there = get_or (free_locations y) j 0 in
    let here = get_or (free_locations y) c 0 in
    fellow_bounded I g y own j p cell is (earlier j image.0)
    (HasFellow-by_locations I y m p i there here is same image.1 (parent_of y i here p is done) ((facilities_of y is).each own free).within (child_is y i here p is done) ((locations_of y is).each j cell.column).within)
image_bounded Location I g y own c (by_one j m) is same free few image earlier p done =
    let cell = IsCellOf-child Location y own j is free (omega (arith, image.0)) in
    let k = get_or (free_locations y) own 0 in
    let there = get_or (free_facilities y) j 0 in
    let here = get_or (free_facilities y) c 0 in
    fellow_bounded I g y j own p cell is (earlier j image.0)
    (HasFellow-by_facilities I y m p there here k is same image.1 (parent_of y here k p is done) (child_is y here k p is done) ((facilities_of y is).each j cell.row).within)
image_bounded side I g y own c (by_both j s t) is same free few image earlier p done =
    let row = row_of side own j in
    let column = column_of side own j in
    let cell = IsCellOf-child side y own j is free (omega (arith, image.0)) in
    let h = get_or (free_facilities y) row 0 in
    let l = get_or (free_locations y) column 0 in
    let i = get_or (free_facilities y) (row_of side own c) 0 in
    let k = get_or (free_locations y) (column_of side own c) 0 in
    fellow_bounded I g y row column p cell is (earlier j image.0)
    (HasFellow-by_both I y s t p h l i k is same image.1 (parent_of y i k p is done) (child_is y i k p is done) ((facilities_of y is).each row cell.row).within ((locations_of y is).each column cell.column).within)
