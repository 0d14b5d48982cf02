-- Sums of a node's own form, term by term.
use Rattle.std.proofs.Common.{◌≡◌, ◌≢◌, ℕ, ◌+◌, ◌*◌, ◌<◌, ◌≤◌, ◌++◌, ◌∷◌, [], nat_eq, arith, ◌∙◌, ap, List, length, get_or}
use Rattle.std.specs.Prelude.{ℤ, pos, ◌+ℤ◌, ◌*ℤ◌, unsigned_abs}
use Rattle.std.proofs.lemmas.Int.{ints}
use Rattle.std.proofs.lemmas.Bool.{cond-true, cond-false, eq-eqb, ne_eqb}
use Rattle.std.proofs.lemmas.List.{length_push}
use Rattle.std.proofs.lemmas.Nat.{mul-le}
use Rattle.qap_cost.specs.Instance.{Problem, entry}
use Rattle.qap_cost.specs.Placement.{Placement, IsPlacement, IsFreeFacility, free_facilities}
use Rattle.qap_cost.specs.Sum.{sum_to}
use Rattle.qap_cost.proofs.Placements.{AreDifferent-length, AreDifferent-more}
use Rattle.qap_cost.proofs.Sums.{AddsUp, sum_to-more, *ℤ-+ℤ}
use Rattle.gilmore_lawler.specs.ReducedMatrix.{cost_with}
use Rattle.pair_duals.specs.CostOfPair.{cost_of_pair}
use Rattle.pair_duals.specs.Limits.{Limits, AreEnough}
use Rattle.pair_duals.specs.PairDuals.{Duals, AreDuals, AreOf}
use Rattle.pair_duals.specs.Range.{IsInScale}
use Rattle.pair_duals.specs.Reduced.{but}
use Rattle.pair_duals.proofs.Seatings.{facilities_of}
use Rattle.pair_duals.proofs.Widths.{linear-within}

-- a term for another number than the one left out stays
pub but-at : (k : ℕ) (f : ℕ → ℤ) (j : ℕ) → j ≢ k → but k f j ≡ f j
but-at k f j apart = cond-false (nat_eq j k) (pos 0) (f j) (ne_eqb j k apart)

-- the term of the one left out is 0
pub but-there : (k : ℕ) (f : ℕ → ℤ) (j : ℕ) → j ≡ k → but k f j ≡ pos 0
but-there k f j same = cond-true (nat_eq j k) (pos 0) (f j) (eq-eqb j k same)

-- one that is passed over
pub AddsUp-over : (total : ℤ) (k : ℕ) (f : ℕ → ℤ) (n limit : ℕ) → AddsUp total (but k f) n limit → n ≡ k → AddsUp total (but k f) (n + 1) limit
AddsUp-over total k f n limit h same =
    let more = sum_to-more (but k f) n in
    let none = but-there k f n same in
    let value = h.value in
    let small = h.small in
    record { value = omega (arith, ints, more, none, value); small = omega (arith, small) }

-- the linear cost as far as so many placed facilities go
abbrev pub linear_so_far : Problem → Placement → ℕ → ℕ → ℕ → ℤ
linear_so_far I x i k t = entry I.size I.a i i *ℤ entry I.size I.b k k +ℤ sum_to (cost_with I x i k) t

-- one placed facility more
pub linear_so_far-more : (I : Problem) (x : Placement) (s i k t : ℕ) → pos s *ℤ linear_so_far I x i k (t + 1) ≡ pos s *ℤ linear_so_far I x i k t +ℤ pos s *ℤ cost_of_pair I i k (get_or x.facilities t 0) (get_or x.places t 0)
linear_so_far-more I x s i k t =
    let own = entry I.size I.a i i *ℤ entry I.size I.b k k in
    let f = cost_with I x i k in
    let more : own +ℤ sum_to f (t + 1) ≡ (own +ℤ sum_to f t) +ℤ f t = let e = sum_to-more f t in omega (arith, ints, e) in
    ap (λ z. pos s *ℤ z) more ∙ *ℤ-+ℤ (pos s) (own +ℤ sum_to f t) (f t)

-- a node with a free facility places fewer than all
pub depth-below : (x : Placement) (i : ℕ) → IsPlacement x → IsFreeFacility x i → length x.facilities + 1 ≤ x.size
depth-below x i is free = omega (arith, AreDifferent-length x.size (x.facilities ++ i ∷ []) (AreDifferent-more x.size i x.facilities is.facilities free), length_push x.facilities i)

-- how far from 0 it lies
pub linear_so_far-within : (m : Limits) (I : Problem) (x : Placement) (s i k t : ℕ) → IsInScale m I s → IsPlacement x → I.size ≡ x.size → x.size ≤ m.size → IsFreeFacility x i → k < I.size → t ≤ length x.facilities → unsigned_abs (pos s *ℤ linear_so_far I x i k t) ≤ 2 * (m.size * m.cost)
linear_so_far-within m I x s i k t scale is size small free hk deep =
    let bound = linear-within m I x s i k t scale is size (omega (arith, size, free.within)) hk deep in
    let below = depth-below x i is free in
    let costs : (2 * t + 1) * m.cost ≤ (2 * m.size) * m.cost = mul-le _ _ _ _ (omega (arith, below, deep, small)) (omega arith) in
    omega (arith, bound, costs)

-- the facilities of a node's duals are free
pub free_of : (x : Placement) (D : Duals) (i : ℕ) → IsPlacement x → AreOf x D → i < length D.facilities → IsFreeFacility x (get_or D.facilities i 0)
free_of x D i is of h =
    let same = of.facilities in
    let lists = facilities_of x is in
    let at : get_or D.facilities i 0 ≡ get_or (free_facilities x) i 0 = ap (λ (l : List ℕ). get_or l i 0) same in
    let there = lists.each i (omega (arith, ap length same)) in
    record { within = omega (arith, at, there.within); untaken = λ t below e. there.untaken t below (e ∙ at) }

-- as many duals as there are free ones
pub duals-within : (m : Limits) (D : Duals) (n : ℕ) → AreEnough m → AreDuals m D → n ≤ length D.facilities → n * m.dual ≤ m.start
duals-within m D n enough d h =
    let few : n * m.dual ≤ m.size * m.dual = mul-le _ _ _ _ (omega (arith, d.count, d.size)) (omega arith) in
    let room = enough.start in
    omega (arith, few, room)
