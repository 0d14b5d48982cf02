-- Duals of a least assignment: how far what they show lies from 0.
use Rattle.std.proofs.Common.{ℕ, zero, suc, ◌+◌, ◌*◌, ◌<◌, ◌≤◌, List, [], ◌∷◌, length, map, get_or, sym, subst, arith}
use Rattle.std.specs.Prelude.{ℤ, pos, unsigned_abs, ◌+ℤ◌, ◌*ℤ◌}
use Rattle.std.specs.List.{remove}
use Rattle.std.proofs.lemmas.Int.{ints, unsigned_abs-mul}
use Rattle.std.proofs.lemmas.List.{length-map}
use Rattle.std.proofs.lemmas.List.Edits.{length-remove}
use Rattle.std.proofs.lemmas.Nat.{mul-le}
use Rattle.qap_cost.proofs.Placements.{IsPlacement-depth, ListsFree-free_below}
use Rattle.qap_cost.proofs.Sums.{sum_to-bound}
use Rattle.qap_cost.specs.Instance.{Problem, IsInstance, entry}
use Rattle.qap_cost.specs.Matrix.{assigned, dual_value, entry_of}
use Rattle.qap_cost.specs.Placement.{Placement, IsPlacement, fixed_cost_of, free_facilities, free_locations, placed_pair_cost}
use Rattle.qap_cost.specs.Range.{IsLimited}
use Rattle.qap_cost.specs.Row.{product_at}
use Rattle.qap_cost.specs.Sum.{sum_to}
use Rattle.gilmore_lawler.specs.LeastProduct.{IsLeastProduct}
use Rattle.gilmore_lawler.specs.ReducedMatrix.{IsReducedEntry, cost_with, linear_cost, others}
use Rattle.qap_search.specs.Certificate.OpenNodes.{AreLeastDuals}

-- where each number of a list is within a limit, so is what is read at any place
at_any : (m : ℕ) (xs : List ℤ) → ((k : ℕ) → k < length xs → unsigned_abs (get_or xs k (pos 0)) ≤ m) → (k : ℕ) → unsigned_abs (get_or xs k (pos 0)) ≤ m
at_any m [] h k = omega arith
at_any m (x ∷ xs) h zero = h 0 (omega arith)
at_any m (x ∷ xs) h (suc k) = at_any m xs (λ j less. h (suc j) (omega arith)) k

entry_a : (I : Problem) → IsInstance I → (i j : ℕ) → unsigned_abs (entry I.size I.a i j) ≤ 1000000000
entry_a I h i j = at_any 1000000000 I.a (λ k less. h.a_range k (omega (arith, less, h.a_count))) (i * I.size + j)

entry_b : (I : Problem) → IsInstance I → (i j : ℕ) → unsigned_abs (entry I.size I.b i j) ≤ 1000000000
entry_b I h i j = at_any 1000000000 I.b (λ k less. h.b_range k (omega (arith, less, h.b_count))) (i * I.size + j)

product_within : (a b : ℤ) → unsigned_abs a ≤ 1000000000 → unsigned_abs b ≤ 1000000000 → unsigned_abs (a *ℤ b) ≤ 1000000000000000000
product_within a b ha hb =
    let all : unsigned_abs a * unsigned_abs b ≤ 1000000000 * 1000000000 = mul-le _ _ _ _ ha hb in
    subst (λ (m : ℕ). m ≤ 1000000000000000000) (sym (unsigned_abs-mul a b)) (omega (arith, all))

-- a flow times a distance
entries_within : (I : Problem) → IsInstance I → (i j k l : ℕ) → unsigned_abs (entry I.size I.a i j *ℤ entry I.size I.b k l) ≤ 1000000000000000000
entries_within I h i j k l = product_within (entry I.size I.a i j) (entry I.size I.b k l) (entry_a I h i j) (entry_b I h k l)

-- a sum of few small terms is small
few_within : (f : ℕ → ℤ) (n m most : ℕ) → n ≤ most → ((i : ℕ) → i < n → unsigned_abs (f i) ≤ m) → unsigned_abs (sum_to f n) ≤ most * m
few_within f n m most few each =
    let sum = sum_to-bound f n m each in
    let itself : m ≤ m = omega arith in
    let more : n * m ≤ most * m = mul-le _ _ _ _ few itself in
    omega (arith, sum, more)

fixed_within : (I : Problem) (x : Placement) → IsInstance I → IsPlacement x → unsigned_abs (fixed_cost_of I x) ≤ 256 * (256 * 1000000000000000000)
fixed_within I x i placed =
    let depth = IsPlacement-depth x placed in
    let few : length x.facilities ≤ 256 = omega (arith, depth, placed.small) in
    few_within (λ s. sum_to (placed_pair_cost I x s) (length x.facilities)) (length x.facilities) (256 * 1000000000000000000) 256 few
    (λ s less. few_within (placed_pair_cost I x s) (length x.facilities) 1000000000000000000 256 few
    (λ t below. entries_within I i (get_or x.facilities s 0) (get_or x.facilities t 0) (get_or x.places s 0) (get_or x.places t 0)))

linear_within : (I : Problem) (x : Placement) (r k : ℕ) → IsInstance I → IsPlacement x → unsigned_abs (linear_cost I x r k) ≤ 513 * 1000000000000000000
linear_within I x r k i placed =
    let depth = IsPlacement-depth x placed in
    let few : length x.facilities ≤ 256 = omega (arith, depth, placed.small) in
    let alone = entries_within I i r r k k in
    let with_each = few_within (cost_with I x r k) (length x.facilities) (2 * 1000000000000000000) 256 few
    (λ t below.
    let there = entries_within I i r (get_or x.facilities t 0) k (get_or x.places t 0) in
    let back = entries_within I i (get_or x.facilities t 0) r (get_or x.places t 0) k in
    omega (arith, ints, there, back)) in
    omega (arith, ints, alone, with_each)

mapped_within : (f : ℕ → ℤ) (m : ℕ) → ((k : ℕ) → unsigned_abs (f k) ≤ m) → (xs : List ℕ) (j : ℕ) → unsigned_abs (get_or (map f xs) j (pos 0)) ≤ m
mapped_within f m each [] j = omega arith
mapped_within f m each (x ∷ xs) zero = each x
mapped_within f m each (x ∷ xs) (suc j) = mapped_within f m each xs j

least_within : (I : Problem) (x : Placement) (r c : ℕ) (least : ℤ) → IsInstance I → IsPlacement x → r < length (free_facilities x) → IsLeastProduct (others I.size I.a (free_facilities x) r) (others I.size I.b (free_locations x) c) least → unsigned_abs least ≤ 256 * 1000000000000000000
least_within I x r c least i placed below h =
    let fs = free_facilities x in
    let xs = others I.size I.a fs r in
    let ys = others I.size I.b (free_locations x) c in
    let p = h.reached.0 in
    let count = (ListsFree-free_below x.size x.facilities placed.facilities).count in
    let left = length-remove fs r below in
    let long = length-map (remove fs r) (entry I.size I.a (get_or fs r 0)) in
    let few : length xs ≤ 256 = omega (arith, count, left, long, placed.small) in
    subst (λ (z : ℤ). unsigned_abs z ≤ 256 * 1000000000000000000) h.reached.2
    (few_within (product_at xs ys p) (length xs) 1000000000000000000 256 few
    (λ j less.
    product_within (get_or xs j (pos 0)) (get_or ys (get_or p j 0) (pos 0))
    (mapped_within (entry I.size I.a (get_or fs r 0)) 1000000000 (entry_a I i (get_or fs r 0)) (remove fs r) j)
    (mapped_within (entry I.size I.b (get_or (free_locations x) c 0)) 1000000000 (entry_b I i (get_or (free_locations x) c 0)) (remove (free_locations x) c) (get_or p j 0))))

entry_within : (I : Problem) (x : Placement) (r c : ℕ) (value : ℤ) → IsInstance I → IsPlacement x → r < length (free_facilities x) → IsReducedEntry I x r c value → unsigned_abs value ≤ 769 * 1000000000000000000
entry_within I x r c value i placed below h =
    let linear = linear_within I x (get_or (free_facilities x) r 0) (get_or (free_locations x) c 0) i placed in
    let least = least_within I x r c h.least i placed below h.is_least in
    let is = h.sum in
    omega (arith, ints, is, linear, least)

-- with what the placed facilities cost they sum to a number from -10^24 to 10^24
pub least_duals_above : (I : Problem) (x : Placement) (u v : List ℤ) → IsInstance I → IsPlacement x → AreLeastDuals I x u v → IsLimited (fixed_cost_of I x +ℤ dual_value u v)
least_duals_above I x u v i placed h =
    let M = h.matrix in
    let q = h.matching in
    let count = (ListsFree-free_below x.size x.facilities placed.facilities).count in
    let size = h.reduced.size in
    let few : M.size ≤ 256 = omega (arith, count, size, placed.small) in
    let each : (r : ℕ) → r < M.size → unsigned_abs (assigned M q r) ≤ 769 * 1000000000000000000 =
    λ r less.
    let same = h.assigns.same_size in
    let column : get_or q r 0 < M.size = omega (arith, same, h.assigns.bijection.within r (omega (arith, same, less))) in
    entry_within I x r (get_or q r 0) (entry_of M r (get_or q r 0)) i placed (omega (arith, less, size)) (h.reduced.entries r (get_or q r 0) less column) in
    let matched = few_within (assigned M q) M.size (769 * 1000000000000000000) 256 few each in
    let fixed = fixed_within I x i placed in
    let is = h.reached in
    omega (arith, ints, is, matched, fixed)
