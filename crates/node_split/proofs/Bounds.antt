-- What the evaluation of a node implies for its completions, and for those of its children.
use Rattle.std.proofs.Common.{◌≡◌, ℕ, ◌<◌, ◌≤◌, List, length, get_or, sym, ◌∙◌, ap, ap₂, subst, refl, inl, inr, [], ◌∷◌, ◌++◌, arith}
use Rattle.std.specs.Prelude.{ℤ, ◌≤ℤ◌}
use Rattle.std.proofs.lemmas.Bool.{cases_lt}
use Rattle.std.proofs.lemmas.Int.{int_max_is, ints}
use Rattle.std.specs.Int.{int_max}
use Rattle.std.proofs.lemmas.List.{length_push}
use Rattle.qap_cost.specs.Instance.{Problem}
use Rattle.qap_cost.specs.Objective.{cost_of}
use Rattle.qap_cost.specs.Placement.{Placement, IsPlacement, IsFreeFacility, IsFreeLocation, Completes, free_facilities, free_locations, placing}
use Rattle.qap_cost.proofs.Nodes.{child_is, parent_of, whole_only}
use Rattle.qap_cost.proofs.Placements.{IsPlacement-placing, ListsFree-free_below}
use Rattle.gilmore_lawler.proofs.Completions.{fixed_and_duals-le}
use Rattle.qap_proof.specs.Tree.{pair}
use Rattle.qap_proof.proofs.ChildValues.{Reaches-at}
use Rattle.qap_proof.proofs.Reaching.{Reaches-le}
use Rattle.qap_symmetry.specs.declared.table.Table.TheVariants.{Distances, Flows}
use Rattle.subtree_search.specs.Closed.{IsClosed}
use Rattle.subtree_search.specs.Images.{IsImage, free_of, table_of}
use Rattle.subtree_search.specs.Lines.{IsLineOf, child_on, column_on, row_on}
use Rattle.subtree_search.specs.Opens.{CompletesOpen, IsOpenAt, IsSettled}
use Rattle.subtree_search.specs.declared.line.Line.{Line}
use Rattle.subtree_search.specs.declared.line.Line.TheVariants.{Column, Row}
use Rattle.subtree_search.specs.declared.split.OpenChild.{OpenChild}
use Rattle.subtree_search.proofs.Covers.{CompletesChild-cover, HasTwin-image}
use Rattle.subtree_search.proofs.Progress.{column_within, row_within}
use Rattle.node_split.specs.Branch.{line_of, marks_on}
use Rattle.node_split.specs.Evaluation.{IsBound, IsEvaluated, reached_at}
use Rattle.node_split.specs.Parent.{AreImages}
use Rattle.node_split.specs.Split.{IsSplit}
use Rattle.node_split.specs.declared.branch.Branch.{Branch}
use Rattle.node_split.specs.declared.branch.Branch.TheVariants.{Facility, Location}
use Rattle.node_split.specs.declared.branch.MarkLists.{MarkLists}
use Rattle.node_split.specs.declared.children.Split.{Split}
use Rattle.node_split.specs.declared.evaluation.Evaluation.{Evaluation}

-- ---- a node

-- the value is the bound of Gilmore and Lawler
pub IsBound-evaluated : (I : Problem) (x : Placement) (e : Evaluation) → IsEvaluated I x e → IsBound I x e.value
IsBound-evaluated I x e h = record {
  matrix = e.matrix;
  square = h.square;
  reduced = h.reduced;
  matching = e.assignment.matching.items;
  assigns = h.least.assigns;
  least = h.least.least;
  is = omega (arith, ints, h.value, h.least.equal);
}

-- no completion costs less than the value
pub value-le : (I : Problem) (x : Placement) (e : Evaluation) (p : List ℕ) → IsPlacement x → I.size ≡ x.size → IsEvaluated I x e → Completes x p → e.value ≤ℤ cost_of I p
value-le I x e p is size h done =
    let below = fixed_and_duals-le I x e.matrix e.assignment.u.items e.assignment.v.items p is size h.reduced h.least.fits done in
    omega (arith, ints, below, h.value)

-- so a node whose value is c or more is closed
pub IsClosed-value : (I : Problem) (x : Placement) (e : Evaluation) (c : ℤ) → IsPlacement x → I.size ≡ x.size → IsEvaluated I x e → c ≤ℤ e.value → IsClosed I x c
IsClosed-value I x e c is size h most = record { least = λ p done. let below = value-le I x e p is size h done in omega (arith, ints, below, most) }

free_count : (x : Placement) → IsPlacement x → length (free_locations x) ≡ length (free_facilities x)
free_count x is = omega (arith, (ListsFree-free_below x.size x.facilities is.facilities).count, (ListsFree-free_below x.size x.places is.places).count, is.paired)

-- a child of a node is a node
IsPlacement-at : (x : Placement) (h g : ℕ) → IsPlacement x → h < length (free_facilities x) → g < length (free_facilities x) → IsPlacement (placing x (get_or (free_facilities x) h 0) (get_or (free_locations x) g 0))
IsPlacement-at x h g is row column =
    IsPlacement-placing x (get_or (free_facilities x) h 0) (get_or (free_locations x) g 0) is
    ((ListsFree-free_below x.size x.facilities is.facilities).each h row)
    ((ListsFree-free_below x.size x.places is.places).each g (omega (arith, column, free_count x is)))

-- a node with at most one free facility has at most one completion
few_completions : (x : Placement) (p q : List ℕ) → IsPlacement x → length (free_facilities x) ≤ 1 → Completes x p → Completes x q → (length (free_facilities x) ≡ 0) → p ≡ q
few_completions x p q is few p_done q_done none =
    whole_only x p q is (omega (arith, none, (ListsFree-free_below x.size x.facilities is.facilities).count)) p_done q_done

-- the only child of a node with one free facility is a permutation
one_completion : (x : Placement) (p q : List ℕ) → IsPlacement x → length (free_facilities x) ≡ 1 → Completes x p → Completes x q → p ≡ q
one_completion x p q is one p_done q_done =
    let m = length (free_facilities x) in
    let f = get_or (free_facilities x) 0 0 in
    let k = get_or (free_locations x) 0 0 in
    let some : 0 < m = omega (arith, one) in
    let a = CompletesChild-cover x (Row 0) p is some p_done in
    let b = CompletesChild-cover x (Row 0) q is some q_done in
    let a_is : a.number ≡ 0 = omega (arith, one, a.within) in
    let b_is : b.number ≡ 0 = omega (arith, one, b.within) in
    let next = IsPlacement-at x 0 0 is some some in
    let whole : length (x.facilities ++ f ∷ []) ≡ x.size = omega (arith, length_push x.facilities f, one, (ListsFree-free_below x.size x.facilities is.facilities).count) in
    whole_only (placing x f k) p q next whole
    (subst (λ (n : ℕ). Completes (child_on x (Row 0) n) p) a_is a.completes)
    (subst (λ (n : ℕ). Completes (child_on x (Row 0) n) q) b_is b.completes)

-- so it is closed at what one of its completions costs
pub IsClosed-few : (I : Problem) (x : Placement) (q : List ℕ) (c : ℤ) → IsPlacement x → length (free_facilities x) ≤ 1 → Completes x q → c ≤ℤ cost_of I q → IsClosed I x c
IsClosed-few I x q c is few q_done most = record {
  least = λ p done.
      let same : p ≡ q =
      elim (cases_lt 0 (length (free_facilities x))) [
        | inl some ↦ one_completion x p q is (omega (arith, some, few)) done q_done
        | inr none ↦ few_completions x p q is few done q_done (omega arith)
      ] in
      subst (λ (r : List ℕ). c ≤ℤ cost_of I r) (sym same) most;
}

-- ---- its children

-- a row and a column of the matrix, with the free facility and location that belong to them
pub record HasCell (s : Split) (r g : ℕ) : Type 0 where
  pub row : r < s.here.now.matrix.size
  pub column : g < s.here.now.matrix.size
  pub row_in : r < length (free_facilities s.node.now)
  pub column_in : g < length (free_locations s.node.now)
  pub facility_listed : r < length s.facilities.now
  pub location_listed : g < length s.locations.now
  pub facility_is : get_or s.facilities.now r 0 ≡ get_or (free_facilities s.node.now) r 0
  pub location_is : get_or s.locations.now g 0 ≡ get_or (free_locations s.node.now) g 0
  pub facility_free : IsFreeFacility s.node.now (get_or s.facilities.now r 0)
  pub location_free : IsFreeLocation s.node.now (get_or s.locations.now g 0)
  pub few : (r < 256) × (g < 256)

-- those of child number k
pub HasCell-child : (I : Problem) (s : Split) (k r g : ℕ) → IsSplit I s → k < s.here.now.matrix.size → r ≡ row_on (line_of s.branch) k → g ≡ column_on (line_of s.branch) k → HasCell s r g
HasCell-child I s k r g h below row_is column_is =
    let x = s.node.now in
    let m = s.here.now.matrix.size in
    let size : m ≡ length (free_facilities x) = h.evaluated.reduced.size in
    let row : r < m = omega (arith, row_is, row_within m k (line_of s.branch) h.line below) in
    let column : g < m = omega (arith, column_is, column_within m k (line_of s.branch) h.line below) in
    let count = free_count x h.placement in
    let row_in : r < length (free_facilities x) = omega (arith, row, size) in
    let column_in : g < length (free_locations x) = omega (arith, column, size, count) in
    let facility_is : get_or s.facilities.now r 0 ≡ get_or (free_facilities x) r 0 = ap (λ (l : List ℕ). get_or l r 0) h.facilities in
    let location_is : get_or s.locations.now g 0 ≡ get_or (free_locations x) g 0 = ap (λ (l : List ℕ). get_or l g 0) h.locations in
    let small = h.evaluated.square.small in
    record {
      row = row;
      column = column;
      row_in = row_in;
      column_in = column_in;
      facility_listed = omega (arith, row_in, ap length h.facilities);
      location_listed = omega (arith, column_in, ap length h.locations);
      facility_is = facility_is;
      location_is = location_is;
      facility_free = subst (IsFreeFacility x) (sym facility_is) ((ListsFree-free_below x.size x.facilities h.placement.facilities).each r row_in);
      location_free = subst (IsFreeLocation x) (sym location_is) ((ListsFree-free_below x.size x.places h.placement.places).each g column_in);
      few = (omega (arith, row, small), omega (arith, column, small));
    }

-- the child that a row and a column make
pub child_made : (s : Split) (k r g f l : ℕ) → HasCell s r g → r ≡ row_on (line_of s.branch) k → g ≡ column_on (line_of s.branch) k → f ≡ get_or s.facilities.now r 0 → l ≡ get_or s.locations.now g 0
    → placing s.node.now f l ≡ child_on s.node.now (line_of s.branch) k
child_made s k r g f l cell row column facility location =
    ap₂ (placing s.node.now)
    (facility ∙ cell.facility_is ∙ ap (λ (i : ℕ). get_or (free_facilities s.node.now) i 0) row)
    (location ∙ cell.location_is ∙ ap (λ (i : ℕ). get_or (free_locations s.node.now) i 0) column)

-- what the node's duals yield for a child is at most what each of its completions costs
pub reached-le : (I : Problem) (x : Placement) (e : Evaluation) (r g f l : ℕ) (p : List ℕ) → IsPlacement x → I.size ≡ x.size → IsEvaluated I x e → r < length (free_facilities x) → g < length (free_locations x)
    → get_or (free_facilities x) r 0 ≡ f → get_or (free_locations x) g 0 ≡ l → Completes (placing x f l) p → reached_at e r g ≤ℤ cost_of I p
reached-le I x e r g f l p is size h row column facility location done =
    Reaches-le I x (pair e.assignment.u.items e.assignment.v.items) f l (reached_at e r g) p is size
    (Reaches-at I x e.matrix (pair e.assignment.u.items e.assignment.v.items) f l r g (reached_at e r g) h.square h.reduced h.least.fits
    (record { row_within = row; row_of = facility; column_within = column; column_of = location })
    (omega (arith, ints, h.value)))
    (parent_of x f l p is done) (child_is x f l p is done)

-- a child that the node's duals close
pub IsClosed-reached : (I : Problem) (s : Split) (k r g : ℕ) (c value : ℤ) → IsSplit I s → HasCell s r g → r ≡ row_on (line_of s.branch) k → g ≡ column_on (line_of s.branch) k → value ≡ reached_at s.here.now r g → c ≤ℤ value → IsClosed I (child_on s.node.now (line_of s.branch) k) c
IsClosed-reached I s k r g c value h cell row column is most =
    let x = s.node.now in
    let f = get_or (free_facilities x) r 0 in
    let l = get_or (free_locations x) g 0 in
    let at : placing x f l ≡ child_on x (line_of s.branch) k = child_made s k r g f l cell row column (sym cell.facility_is) (sym cell.location_is) in
    subst (λ (y : Placement). IsClosed I y c) at (record {
      least = λ p done.
          let below = reached-le I x s.here.now r g f l p h.placement h.size h.evaluated cell.row_in cell.column_in refl refl done in
          omega (arith, ints, below, is, most);
    })

-- a child that its own bound closes
pub IsClosed-own : (I : Problem) (s : Split) (k r g f l : ℕ) (y : Placement) (e : Evaluation) (c : ℤ) → IsSplit I s → HasCell s r g → r ≡ row_on (line_of s.branch) k → g ≡ column_on (line_of s.branch) k → f ≡ get_or s.facilities.now r 0 → l ≡ get_or s.locations.now g 0
    → y ≡ placing s.node.now f l → IsPlacement y → IsEvaluated I y e → c ≤ℤ e.value → IsClosed I (child_on s.node.now (line_of s.branch) k) c
IsClosed-own I s k r g f l y e c h cell row column facility location y_is placement evaluated most =
    subst (λ (z : Placement). IsClosed I z c) (y_is ∙ child_made s k r g f l cell row column facility location)
    (IsClosed-value I y e c placement (h.size ∙ sym (ap (λ (z : Placement). z.size) y_is)) evaluated most)

-- an open child, with a value that no completion of it costs less than
IsOpenAt-least : (I : Problem) (s : Split) (k r g : ℕ) (child : OpenChild) → IsSplit I s → HasCell s r g → r ≡ row_on (line_of s.branch) k → g ≡ column_on (line_of s.branch) k → child.facility ≡ get_or s.facilities.now r 0 → child.location ≡ get_or s.locations.now g 0
    → ((p : List ℕ) → Completes (placing s.node.now child.facility child.location) p → child.value ≤ℤ cost_of I p) → IsOpenAt I 1 s.node.now (child_on s.node.now (line_of s.branch) k) child
IsOpenAt-least I s k r g child h cell row column facility location least = record {
  is = child_made s k r g child.facility child.location cell row column facility location;
  opened = record {
    facility = subst (IsFreeFacility s.node.now) (sym facility) cell.facility_free;
    location = subst (IsFreeLocation s.node.now) (sym location) cell.location_free;
    least = λ p done. let below = least p done in omega (arith, ints, below);
  };
}

-- with the value that the node's duals yield
pub IsOpenAt-reached : (I : Problem) (s : Split) (k r g : ℕ) (child : OpenChild) → IsSplit I s → HasCell s r g → r ≡ row_on (line_of s.branch) k → g ≡ column_on (line_of s.branch) k → child.facility ≡ get_or s.facilities.now r 0 → child.location ≡ get_or s.locations.now g 0
    → child.value ≡ reached_at s.here.now r g → IsOpenAt I 1 s.node.now (child_on s.node.now (line_of s.branch) k) child
IsOpenAt-reached I s k r g child h cell row column facility location value =
    IsOpenAt-least I s k r g child h cell row column facility location
    (λ p done.
    let below = reached-le I s.node.now s.here.now r g child.facility child.location p h.placement h.size h.evaluated cell.row_in cell.column_in (sym (facility ∙ cell.facility_is)) (sym (location ∙ cell.location_is)) done in
    omega (arith, ints, below, value))

-- with the greater of that value and its own bound
pub IsOpenAt-own : (I : Problem) (s : Split) (k r g : ℕ) (child : OpenChild) (y : Placement) (e : Evaluation) (reached : ℤ) → IsSplit I s → HasCell s r g → r ≡ row_on (line_of s.branch) k → g ≡ column_on (line_of s.branch) k → child.facility ≡ get_or s.facilities.now r 0 → child.location ≡ get_or s.locations.now g 0
    → y ≡ placing s.node.now child.facility child.location → IsPlacement y → IsEvaluated I y e → reached ≡ reached_at s.here.now r g → child.value ≡ int_max reached e.value → IsOpenAt I 1 s.node.now (child_on s.node.now (line_of s.branch) k) child
IsOpenAt-own I s k r g child y e reached h cell row column facility location y_is placement evaluated is value =
    IsOpenAt-least I s k r g child h cell row column facility location
    (λ p done.
    let parent = reached-le I s.node.now s.here.now r g child.facility child.location p h.placement h.size h.evaluated cell.row_in cell.column_in (sym (facility ∙ cell.facility_is)) (sym (location ∙ cell.location_is)) done in
    let own = value-le I y e p placement (h.size ∙ sym (ap (λ (z : Placement). z.size) y_is)) evaluated (subst (λ (z : Placement). Completes z p) (sym y_is) done) in
    greatest (child.value) reached e.value (cost_of I p) value (omega (arith, ints, parent, is)) own)
  where
    greatest : (z x y c : ℤ) → z ≡ int_max x y → x ≤ℤ c → y ≤ℤ c → z ≤ℤ c
    greatest z x y c is x_below y_below = omega (arith, ints, is, int_max_is x y, x_below, y_below)

-- ---- all of them

-- an image of an earlier child is settled where that is
pub IsSettled-image : (I : Problem) (x : Placement) (line : Line) (k : ℕ) (c : ℤ) (children : List OpenChild) → IsPlacement x → I.size ≡ x.size → IsLineOf (length (free_facilities x)) line → k < length (free_facilities x) → IsImage I x (table_of line) k
    → ((j : ℕ) → j < k → IsSettled I x c children (child_on x line j)) → IsSettled I x c children (child_on x line k)
IsSettled-image I x line k c children is size on below image settled = record {
  each = λ p done.
      let twin = HasTwin-image I x line image.permutation image.earlier k p is size on below image.before image.takes done in
      elim ((settled image.earlier image.before).each twin.other twin.completes) [
        | inl least ↦ inl (subst (λ z. c ≤ℤ z) twin.cost least)
        | inr found ↦ inr (subst (CompletesOpen I x children) twin.cost found)
      ];
}

-- a node is settled where all its children are
pub settled_all : (I : Problem) (x : Placement) (line : Line) (c : ℤ) (children : List OpenChild) (n : ℕ) → IsPlacement x → IsLineOf (length (free_facilities x)) line → length (free_facilities x) ≤ n
    → ((k : ℕ) → k < n → IsSettled I x c children (child_on x line k)) → IsSettled I x c children x
settled_all I x line c children n is on all each = record {
  each = λ p done.
      let child = CompletesChild-cover x line p is on done in
      (each child.number (omega (arith, child.within, all))).each p child.completes;
}

-- as many children as free ones
pub child_count : (I : Problem) (s : Split) → IsSplit I s → length s.images.now ≡ s.here.now.matrix.size
child_count I s h = h.images.count ∙ others_count s.node.now (line_of s.branch) h.placement ∙ sym h.evaluated.reduced.size
  where
    others_count : (x : Placement) (line : Line) → IsPlacement x → length (free_of (table_of line) x) ≡ length (free_facilities x)
    others_count x (Row own) is = free_count x is
    others_count x (Column own) is = refl

-- the line is one of the free facilities or locations
pub line_within : (I : Problem) (s : Split) → IsSplit I s → IsLineOf (length (free_facilities s.node.now)) (line_of s.branch)
line_within I s h = subst (λ (m : ℕ). IsLineOf m (line_of s.branch)) h.evaluated.reduced.size h.line

-- the marks of the children on a branch
pub marks_are : (I : Problem) (y : Placement) (m : MarkLists) (b : Branch) → AreImages I y Flows m.facilities.items → AreImages I y Distances m.locations.items → AreImages I y (table_of (line_of b)) (marks_on m b)
marks_are I y m (Facility own) facilities locations = locations
marks_are I y m (Location own) facilities locations = facilities
