-- The children on a line, one of which each completion completes.
use Rattle.std.proofs.Common.{◌≡◌, ℕ, ◌<◌, List, length, get_or, subst, arith}
use Rattle.qap_cost.specs.Instance.{Problem}
use Rattle.qap_cost.specs.Objective.{cost_of}
use Rattle.qap_cost.specs.Placement.{Placement, IsPlacement, Completes, placing, free_facilities, free_locations}
use Rattle.qap_cost.proofs.Nodes.{child_of, child_is, parent_of}
use Rattle.qap_proof.specs.Cell.{own_on}
use Rattle.pair_duals.proofs.Seatings.{facilities_of, locations_of, same_count}
use Rattle.qap_proof.proofs.Images.{HasFellow-by_locations, HasFellow-by_facilities}
use Rattle.proof_tree.proofs.Splits.{child_found}
use Rattle.subtree_search.specs.Images.{TakesFree, table_of}
use Rattle.subtree_search.specs.Lines.{IsLineOf, child_on, side_of, own_of}
use Rattle.subtree_search.specs.declared.line.Line.{Line}
use Rattle.subtree_search.specs.declared.line.Line.TheVariants.{Row, Column}

-- ---- images

-- a completion of an image has a fellow of the same cost that completes the earlier child
pub record HasTwin (I : Problem) (x : Placement) (p : List ℕ) : Type 0 where
  pub other : List ℕ
  pub completes : Completes x other
  pub cost : cost_of I other ≡ cost_of I p

-- a completion of an image has such a fellow
pub HasTwin-image : (I : Problem) (y : Placement) (line : Line) (m : List ℕ) (j k : ℕ) (p : List ℕ) → IsPlacement y → I.size ≡ y.size → IsLineOf (length (free_facilities y)) line → k < length (free_facilities y) → j < k → TakesFree I y (table_of line) m j k → Completes (child_on y line k) p
    → HasTwin I (child_on y line j) p
HasTwin-image I y (Row h) m j k p is size on below earlier takes done =
    let i = get_or (free_facilities y) h 0 in
    let here = get_or (free_locations y) k 0 in
    let there = get_or (free_locations y) j 0 in
    let free = (facilities_of y is).each h on in
    let at = (locations_of y is).each j (omega (arith, earlier, below, same_count y is)) in
    let fellow = HasFellow-by_locations I y m p i there here is size takes (parent_of y i here p is done) free.within (child_is y i here p is done) at.within in
    let next = (child_of y i fellow.other is free fellow.completes).1 in
    record { other = fellow.other; completes = subst (λ (l : ℕ). Completes (placing y i l) fellow.other) fellow.stands next; cost = fellow.cost }
HasTwin-image I y (Column g) m j k p is size on below earlier takes done =
    let l = get_or (free_locations y) g 0 in
    let here = get_or (free_facilities y) k 0 in
    let there = get_or (free_facilities y) j 0 in
    let free = (facilities_of y is).each j (omega (arith, earlier, below)) in
    let fellow = HasFellow-by_facilities I y m p there here l is size takes (parent_of y here l p is done) (child_is y here l p is done) free.within in
    let next = (child_of y there fellow.other is free fellow.completes).1 in
    record { other = fellow.other; completes = subst (λ (a : ℕ). Completes (placing y there a) fellow.other) fellow.stands next; cost = fellow.cost }

-- ---- which child a completion completes

-- the child on a line that a permutation completes
pub record CompletesChild (y : Placement) (line : Line) (m : ℕ) (p : List ℕ) : Type 0 where
  pub number : ℕ
  pub within : number < m
  pub completes : Completes (child_on y line number) p

own-free : (y : Placement) (line : Line) → IsPlacement y → IsLineOf (length (free_facilities y)) line → own_of line < length (own_on (side_of line) y)
own-free y (Row h) is below = below
own-free y (Column g) is below = omega (arith, below, same_count y is)

-- each completion of a node completes one of the children on a line
pub CompletesChild-cover : (y : Placement) (line : Line) (p : List ℕ) → IsPlacement y → IsLineOf (length (free_facilities y)) line → Completes y p → CompletesChild y line (length (free_facilities y)) p
CompletesChild-cover y line p is below done =
    let found = child_found (side_of line) y (own_of line) p is (own-free y line is below) done in
    record { number = found.0; within = omega (arith, found.1, (facilities_of y is).count); completes = found.2 }
