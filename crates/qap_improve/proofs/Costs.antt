-- How far from 0 a permutation's cost may lie, and how far it may fall.
use Rattle.std.proofs.Common.{ℕ, ◌+◌, ◌*◌, ◌<◌, ◌≤◌, List, get_or, arith}
use Rattle.std.specs.Prelude.{pos, ◌+ℤ◌, ◌<ℤ◌, unsigned_abs}
use Rattle.std.proofs.lemmas.Int.{ints, unsigned_abs-mul}
use Rattle.std.proofs.lemmas.Nat.{mul-le, mul-add-lt}
use Rattle.qap_cost.specs.Instance.{IsInstance, Problem, entry}
use Rattle.qap_cost.specs.Range.{InRange}
use Rattle.qap_cost.specs.Objective.{Permutes, cost_of, pair_cost, row_cost}
use Rattle.qap_cost.proofs.Sums.{sum_to-bound}

pair_cost-bounded : (I : Problem) (p : List ℕ) (i j : ℕ) → IsInstance I → Permutes I p → i < I.size → j < I.size → unsigned_abs (pair_cost I p i j) ≤ 1000000000000000000
pair_cost-bounded I p i j is h hi hj =
    let n = I.size in
    let same = h.same_size in
    let k = get_or p i 0 in
    let l = get_or p j 0 in
    let hk : k < n = omega (arith, h.bijection.within i) in
    let hl : l < n = omega (arith, h.bijection.within j) in
    let flow : InRange (entry n I.a i j) = is.a_range (i * n + j) (mul-add-lt i n j n hi hj) in
    let distance : InRange (entry n I.b k l) = is.b_range (k * n + l) (mul-add-lt k n l n hk hl) in
    let both : unsigned_abs (entry n I.a i j) * unsigned_abs (entry n I.b k l) ≤ 1000000000 * 1000000000 = mul-le _ _ _ _ flow distance in
    rw (unsigned_abs-mul (entry n I.a i j) (entry n I.b k l)) both

-- the bound that the cost has as a program's result, for every permutation
pub cost_of-bounded : (I : Problem) (p : List ℕ) → IsInstance I → Permutes I p → unsigned_abs (cost_of I p) ≤ 65536 * 1000000000000000000
cost_of-bounded I p is h =
    let n = I.size in
    let small = is.small in
    let rows : (i : ℕ) → i < n → unsigned_abs (row_cost I p i) ≤ 256 * 1000000000000000000 =
    λ i hi.
    let row = sum_to-bound (pair_cost I p i) n 1000000000000000000 (λ j hj. pair_cost-bounded I p i j is h hi hj) in
    omega arith in
    let all = sum_to-bound (row_cost I p) n (256 * 1000000000000000000) rows in
    omega arith

-- how far the cost lies above all that it may be
abbrev pub height : Problem → List ℕ → ℕ
height I p = unsigned_abs (cost_of I p +ℤ pos 65536000000000000000000)

-- a permutation that costs less has less height
pub height-falls : (I : Problem) (p q : List ℕ) → IsInstance I → Permutes I p → Permutes I q → cost_of I q <ℤ cost_of I p → height I q < height I p
height-falls I p q is hp hq less =
    let above = cost_of-bounded I p is hp in
    let below = cost_of-bounded I q is hq in
    omega (arith, ints)
