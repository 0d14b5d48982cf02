-- The cost of a completion in three parts: what the placed facilities cost among themselves, the linear costs of the free ones, and
-- the costs of pairs of free ones.
use Rattle.std.proofs.Common.{◌≡◌, ℕ, zero, suc, ◌+◌, ◌<◌, ◌∷◌, [], refl, sym, ◌∙◌, ap, ap₂, subst, arith, List, length, get_or}
use Rattle.std.specs.Prelude.{ℤ, ◌+ℤ◌, ◌*ℤ◌}
use Rattle.std.proofs.lemmas.Int.{ints}
use Rattle.std.proofs.lemmas.List.{get_or_append_left, get_or_push, length_push}
use Rattle.qap_cost.specs.Sum.{sum_to}
use Rattle.qap_cost.specs.Instance.{Problem, entry}
use Rattle.qap_cost.specs.Objective.{cost_of}
use Rattle.qap_cost.specs.Placement.{Placement, IsPlacement, Completes, free_facilities, free_locations, fixed_cost_of, placing}
use Rattle.qap_cost.proofs.Nodes.{child_of, whole_cost}
use Rattle.qap_cost.proofs.Placements.{IsPlacement-placing}
use Rattle.qap_cost.proofs.Sums.{sum_to-same, sum_to-add, sum_to-more}
use Rattle.gilmore_lawler.specs.ReducedMatrix.{cost_with, linear_cost}
use Rattle.gilmore_lawler.proofs.Skips.{skip, sum_to-apart, length-remove, get_or-remove}
use Rattle.gilmore_lawler.proofs.Splits.{fixed_more}
use Rattle.pair_duals.specs.CostOfPair.{cost_of_pair}
use Rattle.pair_duals.specs.Reduced.{sum_of_pairs}
use Rattle.pair_duals.specs.Seats.{Seats, child_at}
use Rattle.pair_duals.proofs.PairSums.{sum_of_pairs-same, sum_of_pairs-apart}
use Rattle.pair_duals.proofs.Seatings.{facilities_of, locations_of, same_count, Seats-completed, facilities_left, locations_left, SeatsFollow, SeatsFollow-child}

-- a pair is the same in either order
pub cost_of_pair-both : (I : Problem) (i k j l : ℕ) → cost_of_pair I i k j l ≡ cost_of_pair I j l i k
cost_of_pair-both I i k j l =
    let x = entry I.size I.a i j *ℤ entry I.size I.b k l in
    let y = entry I.size I.a j i *ℤ entry I.size I.b l k in
    let both : x +ℤ y ≡ y +ℤ x = omega (arith, ints) in
    both

-- where one more is placed, the linear cost has the pair with it too
pub linear_more : (I : Problem) (y : Placement) (f g i k : ℕ) → IsPlacement y → linear_cost I (placing y f g) i k ≡ linear_cost I y i k +ℤ cost_of_pair I i k f g
linear_more I y f g i k is =
    let d = length y.facilities in
    let z = placing y f g in
    let deep : length z.facilities ≡ d + 1 = length_push y.facilities f in
    let whole : sum_to (cost_with I z i k) (length z.facilities) ≡ sum_to (cost_with I z i k) d +ℤ cost_with I z i k d = ap (sum_to (cost_with I z i k)) deep ∙ sum_to-more (cost_with I z i k) d in
    let before : sum_to (cost_with I z i k) d ≡ sum_to (cost_with I y i k) d =
    sum_to-same (cost_with I z i k) (cost_with I y i k) d (λ t below.
    ap₂ (cost_of_pair I i k) (get_or_append_left y.facilities (f ∷ []) 0 t below) (get_or_append_left y.places (g ∷ []) 0 t (omega (arith, below, is.paired)))) in
    let last : cost_with I z i k d ≡ cost_of_pair I i k f g = ap₂ (cost_of_pair I i k) (get_or_push y.facilities f 0 d refl) (get_or_push y.places g 0 d is.paired) in
    omega (arith, ints, whole, before, last)

-- what the free facility of number r costs at its seat, alone and with the placed ones
pub linear_at : Problem → Placement → List ℕ → ℕ → ℤ
linear_at I y seat r = linear_cost I y (get_or (free_facilities y) r 0) (get_or (free_locations y) (get_or seat r 0) 0)

-- what two free facilities cost together at their seats
pub pair_at : Problem → Placement → List ℕ → ℕ → ℕ → ℤ
pair_at I y seat r t =
    cost_of_pair I (get_or (free_facilities y) r 0) (get_or (free_locations y) (get_or seat r 0) 0) (get_or (free_facilities y) t 0) (get_or (free_locations y) (get_or seat t 0) 0)

-- that is its linear cost at the location of its seat
pub linear_at-is : (I : Problem) (y : Placement) (seat : List ℕ) (r : ℕ) → linear_at I y seat r ≡ linear_cost I y (get_or (free_facilities y) r 0) (get_or (free_locations y) (get_or seat r 0) 0)
unfolding linear_at
linear_at-is I y seat r = refl

-- that is the cost of the two as a pair at the locations of their seats
pub pair_at-is : (I : Problem) (y : Placement) (seat : List ℕ) (r t : ℕ)
    → pair_at I y seat r t ≡ cost_of_pair I (get_or (free_facilities y) r 0) (get_or (free_locations y) (get_or seat r 0) 0) (get_or (free_facilities y) t 0) (get_or (free_locations y) (get_or seat t 0) 0)
unfolding pair_at
pair_at-is I y seat r t = refl

pair_at-both : (I : Problem) (y : Placement) (seat : List ℕ) (r t : ℕ) → pair_at I y seat r t ≡ pair_at I y seat t r
unfolding pair_at
pair_at-both I y seat r t = cost_of_pair-both I (get_or (free_facilities y) r 0) (get_or (free_locations y) (get_or seat r 0) 0) (get_or (free_facilities y) t 0) (get_or (free_locations y) (get_or seat t 0) 0)

-- at a child, the free facility of number r stands where that of number skip h r stands at the node
record Follows (I : Problem) (y : Placement) (h g : ℕ) (seat next : List ℕ) (m : ℕ) : Type 0 where
  linear : (r : ℕ) → r < m → linear_at I (child_at y h g) next r ≡ linear_at I y seat (skip h r) +ℤ pair_at I y seat (skip h r) h
  pairs : (r t : ℕ) → r < m → t < m → pair_at I (child_at y h g) next r t ≡ pair_at I y seat (skip h r) (skip h t)

Follows-child : (I : Problem) (y : Placement) (h g : ℕ) (seat next : List ℕ) (m : ℕ) → IsPlacement y → h < length (free_facilities y) → g < length (free_locations y) → length next ≡ m → SeatsFollow h g seat next → Follows I y h g seat next m
unfolding linear_at pair_at
Follows-child I y h g seat next m is hh hg count s =
    let F = free_facilities y in
    let G = free_locations y in
    let z = child_at y h g in
    let f = get_or F h 0 in
    let k = get_or G g 0 in
    let facility : (r : ℕ) → get_or (free_facilities z) r 0 ≡ get_or F (skip h r) 0 = λ r. ap (λ (l : List ℕ). get_or l r 0) (facilities_left y h g is hh) ∙ get_or-remove F h r 0 hh in
    let location : (r : ℕ) → r < m → get_or (free_locations z) (get_or next r 0) 0 ≡ get_or G (get_or seat (skip h r) 0) 0 =
    λ r below.
    ap (λ (l : List ℕ). get_or l (get_or next r 0) 0) (locations_left y h g is hg)
    ∙ get_or-remove G g (get_or next r 0) 0 hg
    ∙ ap (λ c. get_or G c 0) (sym (s.others r (omega (arith, count)))) in
    let own : k ≡ get_or G (get_or seat h 0) 0 = ap (λ c. get_or G c 0) (sym s.here) in
    record {
      linear = λ r below.
          ap₂ (linear_cost I z) (facility r) (location r below)
          ∙ linear_more I y f k (get_or F (skip h r) 0) (get_or G (get_or seat (skip h r) 0) 0) is
          ∙ ap (λ c. linear_cost I y (get_or F (skip h r) 0) (get_or G (get_or seat (skip h r) 0) 0) +ℤ cost_of_pair I (get_or F (skip h r) 0) (get_or G (get_or seat (skip h r) 0) 0) f c) own;
      pairs = λ r t hr ht.
          ap₂ (λ i j. cost_of_pair I i (get_or (free_locations z) (get_or next r 0) 0) j (get_or (free_locations z) (get_or next t 0) 0)) (facility r) (facility t)
          ∙ ap₂ (λ i j. cost_of_pair I (get_or F (skip h r) 0) i (get_or F (skip h t) 0) j) (location r hr) (location t ht);
    }

-- a completion costs the fixed cost, the linear costs of the free ones and the costs of their pairs
pub cost_split : (m : ℕ) (I : Problem) (y : Placement) (p seat : List ℕ) → IsPlacement y → I.size ≡ y.size → length (free_facilities y) ≡ m → Completes y p → Seats y p seat
    → cost_of I p ≡ (fixed_cost_of I y +ℤ sum_to (linear_at I y seat) m) +ℤ sum_of_pairs (pair_at I y seat) m
cost_split zero I y p seat is size count done s =
    let all : length y.facilities ≡ y.size = omega (arith, count, (facilities_of y is).count) in
    let whole = whole_cost I y p is size all done in
    omega (arith, ints, whole)
cost_split (suc m) I y p seat is size count done s =
    let F = free_facilities y in
    let G = free_locations y in
    let f = get_or F m 0 in
    let hh : m < length F = omega (arith, count) in
    let g = get_or seat m 0 in
    let hg : g < length G = omega (arith, same_count y is, s.count, s.bijection.within m (omega (arith, s.count, count))) in
    let z = child_at y m g in
    let at : get_or p f 0 ≡ get_or G g 0 = s.stands m (omega (arith, s.count, count)) in
    let z_is : IsPlacement z = IsPlacement-placing y f (get_or G g 0) is ((facilities_of y is).each m hh) ((locations_of y is).each g hg) in
    let z_done : Completes z p = subst (λ (k : ℕ). Completes (placing y f k) p) at (child_of y f p is ((facilities_of y is).each m hh) done).1 in
    let seated = Seats-completed z p z_is z_done in
    let next = seated.0 in
    let left : length (free_facilities z) ≡ m = omega (arith, ap length (facilities_left y m g is hh), length-remove F m hh, count) in
    let follow = SeatsFollow-child y m g p seat next is hh hg z_done s seated.1 in
    let same = Follows-child I y m g seat next m is hh hg (seated.1.count ∙ left) follow in
    let ih : cost_of I p ≡ (fixed_cost_of I z +ℤ sum_to (linear_at I z next) m) +ℤ sum_of_pairs (pair_at I z next) m = cost_split m I z p next z_is size left z_done seated.1 in
    let fixed : fixed_cost_of I z ≡ fixed_cost_of I y +ℤ linear_cost I y f (get_or G g 0) = fixed_more I y f (get_or G g 0) is in
    let own : linear_at I y seat m ≡ linear_cost I y f (get_or G g 0) = linear_at-is I y seat m in
    let rows : sum_to (linear_at I z next) m ≡ sum_to (λ r. linear_at I y seat (skip m r) +ℤ pair_at I y seat (skip m r) m) m = sum_to-same (linear_at I z next) (λ r. linear_at I y seat (skip m r) +ℤ pair_at I y seat (skip m r) m) m same.linear in
    let split = sum_to-add (λ r. linear_at I y seat (skip m r)) (λ r. pair_at I y seat (skip m r) m) m in
    let pairs : sum_of_pairs (pair_at I z next) m ≡ sum_of_pairs (λ r t. pair_at I y seat (skip m r) (skip m t)) m =
    sum_of_pairs-same (pair_at I z next) (λ r t. pair_at I y seat (skip m r) (skip m t)) m (λ r t ht hr. same.pairs r t hr (omega arith)) in
    let apart : sum_to (linear_at I y seat) (suc m) ≡ linear_at I y seat m +ℤ sum_to (λ r. linear_at I y seat (skip m r)) m = sum_to-apart (linear_at I y seat) m m (omega arith) in
    let pairs_apart : sum_of_pairs (pair_at I y seat) (suc m) ≡ sum_to (λ r. pair_at I y seat (skip m r) m) m +ℤ sum_of_pairs (λ r t. pair_at I y seat (skip m r) (skip m t)) m =
    sum_of_pairs-apart (pair_at I y seat) m m (omega arith) (pair_at-both I y seat) in
    omega (arith, ints, ih, fixed, own, rows, split, pairs, apart, pairs_apart)
