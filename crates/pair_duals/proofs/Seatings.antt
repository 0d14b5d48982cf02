-- Where the free facilities stand in a completion, at a node and at a child of it.
use Rattle.std.proofs.Common.{◌≡◌, ℕ, ◌+◌, ◌<◌, ◌≤◌, sym, ◌∙◌, ap, arith, List, length, get_or, inl, inr}
use Rattle.std.specs.Prelude.{◌⊎◌, remove}
use Rattle.std.proofs.lemmas.Bool.{cases_lt}
use Rattle.qap_cost.specs.Placement.{Placement, IsPlacement, ListsFree, Completes, free_facilities, free_locations}
use Rattle.qap_cost.proofs.Nodes.{child_of, child_is}
use Rattle.qap_cost.proofs.Placements.{ListsFree-free_below}
use Rattle.gilmore_lawler.proofs.LeftOut.{free_below-more}
use Rattle.gilmore_lawler.proofs.Lists.{list_of, length-list_of, get_or-list_of, IsBijection-list_of}
use Rattle.gilmore_lawler.proofs.Skips.{skip, skip-within, length-remove, get_or-remove}
use Rattle.pair_duals.specs.Seats.{Seats, child_at}

-- the free facilities and locations of a node
pub facilities_of : (y : Placement) → IsPlacement y → ListsFree y.size y.facilities (free_facilities y)
facilities_of y h = ListsFree-free_below y.size y.facilities h.facilities

-- the same for the free locations
pub locations_of : (y : Placement) → IsPlacement y → ListsFree y.size y.places (free_locations y)
locations_of y h = ListsFree-free_below y.size y.places h.places

-- there are as many free locations as free facilities
pub same_count : (y : Placement) → IsPlacement y → length (free_locations y) ≡ length (free_facilities y)
same_count y h = omega (arith, (facilities_of y h).count, (locations_of y h).count, h.paired)

-- different numbers have different free ones
pub one_of_each : (n : ℕ) (taken free : List ℕ) (i j : ℕ) → ListsFree n taken free → i < length free → j < length free → get_or free i 0 ≡ get_or free j 0 → i ≡ j
one_of_each n taken free i j lists hi hj e =
    elim (cases_lt i j) [
      | inl less ↦ absurd (omega (arith, lists.ascending i j less hj, e))
      | inr rest ↦ elim (cases_lt j i) [
        | inl less ↦ absurd (omega (arith, lists.ascending j i less hi, e))
        | inr same ↦ omega arith
      ]
    ]

-- the free location, by number, at which p puts the free facility of number r
found : (y : Placement) (p : List ℕ) (r : ℕ) → IsPlacement y → Completes y p → r < length (free_facilities y) → (c : ℕ) × (c < length (free_locations y)) × (get_or (free_locations y) c 0 ≡ get_or p (get_or (free_facilities y) r 0) 0)
found y p r h done below =
    let f = get_or (free_facilities y) r 0 in
    (locations_of y h).all (get_or p f 0) (child_of y f p h ((facilities_of y h).each r below) done).0

seat_at : (y : Placement) (p : List ℕ) → IsPlacement y → Completes y p → (r : ℕ) → ((r < length (free_facilities y)) ⊎ (length (free_facilities y) ≤ r)) → ℕ
seat_at y p h done r (inl below) = (found y p r h done below).0
seat_at y p h done r (inr past) = 0

seat_at-stands : (y : Placement) (p : List ℕ) (h : IsPlacement y) (done : Completes y p) (r : ℕ) (k : (r < length (free_facilities y)) ⊎ (length (free_facilities y) ≤ r)) → r < length (free_facilities y)
    → (seat_at y p h done r k < length (free_locations y)) × (get_or (free_locations y) (seat_at y p h done r k) 0 ≡ get_or p (get_or (free_facilities y) r 0) 0)
unfolding seat_at
seat_at-stands y p h done r (inl below) inside = ((found y p r h done below).1, (found y p r h done below).2)
seat_at-stands y p h done r (inr past) inside = absurd (omega arith)

-- in a completion each free facility has its seat
pub Seats-completed : (y : Placement) (p : List ℕ) → IsPlacement y → Completes y p → (seat : List ℕ) × Seats y p seat
Seats-completed y p h done =
    let F = free_facilities y in
    let G = free_locations y in
    let m = length F in
    let f : ℕ → ℕ = λ r. seat_at y p h done r (cases_lt r m) in
    let known : (r : ℕ) → r < m → (f r < length G) × (get_or G (f r) 0 ≡ get_or p (get_or F r 0) 0) = λ r below. seat_at-stands y p h done r (cases_lt r m) below in
    let same = same_count y h in
    let inside : (r : ℕ) → r < m → get_or F r 0 < length p = λ r below. omega (arith, done.same_size, ((facilities_of y h).each r below).within) in
    let count = length-list_of f m in (
      list_of f m,
      record {
        bijection = IsBijection-list_of f m (λ r below. omega (arith, (known r below).0, same)) (λ i j hi hj e.
            one_of_each y.size y.facilities F i j (facilities_of y h) hi hj
            (done.bijection.distinct (get_or F i 0) (get_or F j 0) (inside i hi) (inside j hj)
            (sym (known i hi).1 ∙ ap (λ c. get_or G c 0) e ∙ (known j hj).1)));
        count = count;
        stands = λ r hr.
            let below : r < m = omega (arith, count) in
            sym (known r below).1 ∙ ap (λ c. get_or G c 0) (sym (get_or-list_of f m r below));
      },
    )

-- free at a child are the free facilities of the node but the one that it places
pub facilities_left : (y : Placement) (h g : ℕ) → IsPlacement y → h < length (free_facilities y) → free_facilities (child_at y h g) ≡ remove (free_facilities y) h
facilities_left y h g is below = free_below-more y.size y.facilities h is.facilities below

-- the same for the free locations
pub locations_left : (y : Placement) (h g : ℕ) → IsPlacement y → g < length (free_locations y) → free_locations (child_at y h g) ≡ remove (free_locations y) g
locations_left y h g is below = free_below-more y.size y.places g is.places below

-- a completion's seats at a node and at its child
pub record SeatsFollow (h g : ℕ) (seat next : List ℕ) : Type 0 where
  pub here : get_or seat h 0 ≡ g
  pub others : (r : ℕ) → r < length next → get_or seat (skip h r) 0 ≡ skip g (get_or next r 0)

-- the seats of a completion at a child follow from those at the node
pub SeatsFollow-child : (y : Placement) (h g : ℕ) (p seat next : List ℕ) → IsPlacement y → h < length (free_facilities y) → g < length (free_locations y) → Completes (child_at y h g) p → Seats y p seat → Seats (child_at y h g) p next → SeatsFollow h g seat next
SeatsFollow-child y h g p seat next is hh hg done s t =
    let F = free_facilities y in
    let G = free_locations y in
    let same = same_count y is in
    let left_rows = facilities_left y h g is hh in
    let left_columns = locations_left y h g is hg in
    let rows_count = length-remove F h hh in
    let columns_count = length-remove G g hg in
    let next_count : length next + 1 ≡ length F = omega (arith, t.count, ap length left_rows, rows_count) in
    let seated : (r : ℕ) → r < length F → get_or seat r 0 < length G = λ r below. omega (arith, same, s.count, s.bijection.within r (omega (arith, s.count))) in
    record {
      here =
          one_of_each y.size y.places G (get_or seat h 0) g (locations_of y is) (seated h hh) hg
          (sym (s.stands h (omega (arith, s.count))) ∙ child_is y (get_or F h 0) (get_or G g 0) p is done);
      others = λ r below.
          let inside : skip h r < length F = omega (arith, skip-within h r (length next) below, next_count) in
          let at_next : get_or next r 0 < length next = t.bijection.within r below in
          let there : skip g (get_or next r 0) < length G = omega (arith, skip-within g (get_or next r 0) (length next) at_next, next_count, same) in
          one_of_each y.size y.places G (get_or seat (skip h r) 0) (skip g (get_or next r 0)) (locations_of y is) (seated (skip h r) inside) there
          (sym (s.stands (skip h r) (omega (arith, s.count)))
          ∙ ap (λ f. get_or p f 0) (sym (ap (λ (l : List ℕ). get_or l r 0) left_rows ∙ get_or-remove F h r 0 hh))
          ∙ t.stands r below
          ∙ ap (λ (l : List ℕ). get_or l (get_or next r 0) 0) left_columns
          ∙ get_or-remove G g (get_or next r 0) 0 hg);
    }
