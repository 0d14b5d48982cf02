-- Costs, and quotients of scaled ones.
use Rattle.std.proofs.Common.{◌≡◌, ℕ, zero, suc, ◌+◌, ◌*◌, ◌/◌, ◌^◌, ◌<◌, ◌≤◌, ℤ, pos, negsuc, ◌<ℤ◌, ◌*ℤ◌, refl, arith, get_or}
use Rattle.std.specs.Prelude.{List, neg_ℤ, unsigned_abs}
use Rattle.std.specs.Int.{int_div_euclid}
use Rattle.std.proofs.Math.Nat.{div-lt_iff_lt-mul, le-div_iff_mul-le, mul_comm, suc-mul}
use Rattle.std.proofs.lemmas.Int.{ints, unsigned_abs-mul}
use Rattle.std.proofs.lemmas.Nat.{mul-le}
use Rattle.qap_cost.specs.Instance.{IsInstance, Problem, entry}
use Rattle.qap_cost.specs.Objective.{pair_cost, row_cost}
use Rattle.qap_cost.specs.Placement.{Placement}
use Rattle.qap_cost.proofs.Sums.{sum_to-bound}
use Rattle.subtree_search.specs.Closed.{IsClosed}

-- the quotient of a number below a product is below the factor
pub below_quotient : (s : ℕ) (number cost : ℤ) → 0 < s → number <ℤ (pos s *ℤ cost) → int_div_euclid number (pos s) <ℤ cost
below_quotient s (pos a) (pos k) positive below =
    let own : pos s *ℤ pos k ≡ pos (s * k) = refl in
    let less : a < k * s = let swap = mul_comm k s in omega (arith, ints, below, own, swap) in
    let q : a / s < k = (div-lt_iff_lt-mul {k = s} {x = a} {y = k} positive).1 less in
    omega (arith, ints, q)
below_quotient zero number (negsuc k) positive below = absurd (omega arith)
below_quotient (suc t) (pos a) (negsuc k) positive below =
    let own : pos (suc t) *ℤ negsuc k ≡ neg_ℤ (pos (suc t * suc k)) = refl in
    absurd (omega (arith, ints, below, own))
below_quotient s (negsuc a) (pos k) positive below = omega (arith, ints)
below_quotient (suc t) (negsuc a) (negsuc k) positive below =
    let own : pos (suc t) *ℤ negsuc k ≡ neg_ℤ (pos (suc t * suc k)) = refl in
    let most : suc t * suc k ≤ a = omega (arith, ints, below, own) in
    let swap = mul_comm (suc k) (suc t) in
    let q : suc k ≤ a / suc t = (le-div_iff_mul-le {k = suc t} {x = suc k} {y = a} positive).1 (omega (arith, most, swap)) in
    omega (arith, ints, q)

-- no permutation of an instance costs less than the least that n * n products of two entries can be
within_square : (n i j : ℕ) → i < n → j < n → i * n + j < n * n
within_square n i j hi hj =
    let rows = mul-le (suc i) n n n (omega arith) (omega arith) in
    let row = suc-mul i n in
    omega (arith, rows, row)

pair_bounded : (I : Problem) (p : List ℕ) (i j : ℕ) → IsInstance I → i < I.size → j < I.size → get_or p i 0 < I.size → get_or p j 0 < I.size → unsigned_abs (pair_cost I p i j) ≤ 10 ^ 18
pair_bounded I p i j is hi hj pi pj =
    let a = is.a_range (i * I.size + j) (within_square I.size i j hi hj) in
    let b = is.b_range (get_or p i 0 * I.size + get_or p j 0) (within_square I.size (get_or p i 0) (get_or p j 0) pi pj) in
    let product = unsigned_abs-mul (entry I.size I.a i j) (entry I.size I.b (get_or p i 0) (get_or p j 0)) in
    let most = mul-le (unsigned_abs (entry I.size I.a i j)) (unsigned_abs (entry I.size I.b (get_or p i 0) (get_or p j 0))) (10 ^ 9) (10 ^ 9) a b in
    omega (arith, product, most)

-- no completion of a node of an instance costs less than the least that any permutation can cost
pub root_closed : (I : Problem) (x : Placement) → IsInstance I → x.size ≡ I.size → IsClosed I x (negsuc 65535999999999999999999)
root_closed I x is size = record {
  least = λ p done.
      let within : (i : ℕ) → i < I.size → get_or p i 0 < I.size = λ i below. (let at = done.bijection.within i (let same = done.same_size in omega arith) in let same = done.same_size in omega arith) in
      let row : (i : ℕ) → i < I.size → unsigned_abs (row_cost I p i) ≤ I.size * 10 ^ 18 = λ i below.
      sum_to-bound (pair_cost I p i) I.size (10 ^ 18) (λ j other. pair_bounded I p i j is below other (within i below) (within j other)) in
      let all = sum_to-bound (row_cost I p) I.size (I.size * 10 ^ 18) row in
      let rows = mul-le I.size (10 ^ 18) 256 (10 ^ 18) is.small (omega arith) in
      let most = mul-le I.size (I.size * 10 ^ 18) 256 (256 * 10 ^ 18) is.small (omega (arith, rows)) in
      omega (arith, ints, all, most);
}
