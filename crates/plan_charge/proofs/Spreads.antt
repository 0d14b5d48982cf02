-- No two permutations' costs differ by more than the spread.
use Rattle.std.proofs.Common.{◌≡◌, ◌∙◌, ℕ, zero, suc, ◌+◌, ◌*◌, ◌/◌, ◌%◌, ◌<◌, ◌≤◌, List, ap, ap₂, arith, add-one, get_or, inl, inr, refl, subst, sym}
use Rattle.std.specs.Prelude.{ℤ, pos, negsuc, ◌+ℤ◌, ◌-ℤ◌, ◌*ℤ◌, ◌≤ℤ◌, unsigned_abs}
use Rattle.std.specs.Int.{int_max, int_min}
use Rattle.std.proofs.lemmas.Bool.{cases_lt}
use Rattle.std.proofs.lemmas.Int.{ints, clamps}
use Rattle.std.proofs.lemmas.Nat.{div-add-mod', mul-add-lt, mul-le}
use borrow.Author.Differences.{up, down, product_is}
use Rattle.qap_cost.specs.Instance.{Problem, entry}
use Rattle.qap_cost.specs.Objective.{Permutes, cost_of, pair_cost, row_cost}
use Rattle.qap_cost.specs.Sum.{sum_to}
use Rattle.qap_cost.proofs.Sums.{sum_to-add, sum_to-monotone, sum_to-same, sum_to-scale, sum_to-zero}
use Rattle.plan_charge.specs.Charges.{AreCharges, charge_of, charged, cost_with, paid}
use Rattle.plan_charge.specs.Spread.{charge_range, distance_at, distance_range, flow_size, greatest_to, least_to, spread}
use Rattle.plan_charge.specs.declared.charges.Charges.{Charges}
use Rattle.plan_charge.proofs.Charged.{sum_to-split}

-- none is above the greatest
pub greatest-le : (f : ℕ → ℤ) (n k : ℕ) → k < n → f k ≤ℤ greatest_to f n
greatest-le f zero k below = absurd (omega (arith, below))
greatest-le f (suc n) k below =
    elim (cases_lt k n) [
      | inl inside ↦ let h = greatest-le f n k inside in omega (arith, ints, clamps, h)
      | inr past ↦
          let here : f k ≡ f n = let e : k ≡ n = omega (arith, below, past) in ap f e in
          omega (arith, ints, clamps, here)
    ]

-- none is below the least
pub least-le : (f : ℕ → ℤ) (n k : ℕ) → k < n → least_to f n ≤ℤ f k
least-le f zero k below = absurd (omega (arith, below))
least-le f (suc n) k below =
    elim (cases_lt k n) [
      | inl inside ↦ let h = least-le f n k inside in omega (arith, ints, clamps, h)
      | inr past ↦
          let here : f k ≡ f n = let e : k ≡ n = omega (arith, below, past) in ap f e in
          omega (arith, ints, clamps, here)
    ]

-- number k of a matrix by rows
pub flat-entry : (n k : ℕ) (xs : List ℤ) → entry n xs (k / n) (k % n) ≡ get_or xs k (pos 0)
flat-entry n k xs = ap (λ j. get_or xs j (pos 0)) (div-add-mod' k n)

scale-comm : (m : ℕ) (z : ℤ) → pos m *ℤ z ≡ z *ℤ pos m
scale-comm m z =
    let p = product_is (pos m) z in
    let q = product_is z (pos m) in
    omega (arith, ints, p.0, p.1, q.0, q.1)

-- numbers that are no further apart than r, each times one number
times-le : (a x y r : ℤ) → x ≤ℤ (y +ℤ r) → y ≤ℤ (x +ℤ r) → (a *ℤ x) ≤ℤ (a *ℤ y +ℤ r *ℤ pos (unsigned_abs a))
times-le (pos m) x y r first second =
    let order : up x + down y + down r ≤ down x + up y + up r = omega (arith, ints, first) in
    let times = mul-le m (up x + down y + down r) m (down x + up y + up r) (omega arith) order in
    let p = product_is (pos m) x in
    let q = product_is (pos m) y in
    let s = product_is r (pos m) in
    omega (arith, ints, times, p.0, p.1, q.0, q.1, s.0, s.1)
times-le (negsuc m) x y r first second =
    let order : up y + down x + down r ≤ down y + up x + up r = omega (arith, ints, second) in
    let times = mul-le (suc m) (up y + down x + down r) (suc m) (down y + up x + up r) (omega arith) order in
    let p = product_is (negsuc m) x in
    let q = product_is (negsuc m) y in
    let s = product_is r (pos (suc m)) in
    omega (arith, ints, times, p.0, p.1, q.0, q.1, s.0, s.1)

-- a sum by rows
sum_to-rows : (f : ℕ → ℤ) (n m : ℕ) → sum_to f (m * n) ≡ sum_to (λ i. sum_to (λ j. f (i * n + j)) n) m
sum_to-rows f n zero = let e : 0 * n ≡ 0 = omega arith in ap (sum_to f) e
sum_to-rows f n (suc m) =
    let e : suc m * n ≡ m * n + n = omega arith in
    ap (sum_to f) e ∙ sum_to-split f (m * n) n ∙ ap (λ s. s +ℤ sum_to (λ j. f (m * n + j)) n) (sum_to-rows f n m)

-- two distances are no further apart than the range of the distances
distances-le : (I : Problem) (k l s t : ℕ) → k < I.size → l < I.size → s < I.size → t < I.size → entry I.size I.b k l ≤ℤ (entry I.size I.b s t +ℤ distance_range I)
distances-le I k l s t row column other_row other_column =
    let n = I.size in
    let high = greatest-le (distance_at I) (n * n) (k * n + l) (mul-add-lt k n l n row column) in
    let low = least-le (distance_at I) (n * n) (s * n + t) (mul-add-lt s n t n other_row other_column) in
    omega (arith, ints, high, low)

inside : (I : Problem) (p : List ℕ) (i : ℕ) → Permutes I p → i < I.size → get_or p i 0 < I.size
inside I p i perm below = omega (arith, perm.same_size, perm.bijection.within i (omega (arith, perm.same_size, below)))

-- by how much the costs of facilities i and j may differ
abbrev pair_range : Problem → ℕ → ℕ → ℤ
pair_range I i j = distance_range I *ℤ flow_size I (i * I.size + j)

pair-le : (I : Problem) (p q : List ℕ) (i j : ℕ) → Permutes I p → Permutes I q → i < I.size → j < I.size → pair_cost I p i j ≤ℤ (pair_cost I q i j +ℤ pair_range I i j)
pair-le I p q i j first second row column =
    let k = inside I p i first row in
    let l = inside I p j first column in
    let s = inside I q i second row in
    let t = inside I q j second column in
    times-le (entry I.size I.a i j) (entry I.size I.b (get_or p i 0) (get_or p j 0)) (entry I.size I.b (get_or q i 0) (get_or q j 0)) (distance_range I)
    (distances-le I (get_or p i 0) (get_or p j 0) (get_or q i 0) (get_or q j 0) k l s t)
    (distances-le I (get_or q i 0) (get_or q j 0) (get_or p i 0) (get_or p j 0) s t k l)

row-le : (I : Problem) (p q : List ℕ) (i : ℕ) → Permutes I p → Permutes I q → i < I.size → row_cost I p i ≤ℤ (row_cost I q i +ℤ sum_to (pair_range I i) I.size)
row-le I p q i first second row =
    let most = sum_to-monotone (pair_cost I p i) (λ j. pair_cost I q i j +ℤ pair_range I i j) I.size (λ j column. pair-le I p q i j first second row column) in
    subst (λ z. row_cost I p i ≤ℤ z) (sum_to-add (pair_cost I q i) (pair_range I i) I.size) most

all_ranges : (I : Problem) → sum_to (λ i. sum_to (pair_range I i) I.size) I.size ≡ distance_range I *ℤ sum_to (flow_size I) (I.size * I.size)
all_ranges I =
    let n = I.size in
    let rows : ℕ → ℤ = λ i. sum_to (λ j. flow_size I (i * n + j)) n in
    sum_to-same (λ i. sum_to (pair_range I i) n) (λ i. distance_range I *ℤ rows i) n (λ i row. sum_to-scale (distance_range I) (λ j. flow_size I (i * n + j)) n)
    ∙ sum_to-scale (distance_range I) rows n
    ∙ ap (λ z. distance_range I *ℤ z) (sym (sum_to-rows (flow_size I) n n))

-- what two permutations cost in the instance
cost-le : (I : Problem) (p q : List ℕ) → Permutes I p → Permutes I q → cost_of I p ≤ℤ (cost_of I q +ℤ distance_range I *ℤ sum_to (flow_size I) (I.size * I.size))
cost-le I p q first second =
    let ranges : ℕ → ℤ = λ i. sum_to (pair_range I i) I.size in
    let most = sum_to-monotone (row_cost I p) (λ i. row_cost I q i +ℤ ranges i) I.size (λ i row. row-le I p q i first second row) in
    subst (λ z. cost_of I p ≤ℤ z) (sum_to-add (row_cost I q) ranges I.size ∙ ap (λ z. cost_of I q +ℤ z) (all_ranges I)) most

-- what facilities pay for two permutations
charged-le : (I : Problem) (c : Charges) (p q : List ℕ) → AreCharges I.size c → Permutes I p → Permutes I q → charged I.size c p ≤ℤ (charged I.size c q +ℤ sum_to (charge_range I.size c) c.count)
charged-le I c p q charges first second =
    let n = I.size in
    let each : (i : ℕ) → i < c.count → paid n c p i ≤ℤ (paid n c q i +ℤ charge_range n c i) =
    λ i below.
    let row : i < n = omega (arith, below, charges.payers) in
    let high = greatest-le (charge_of n c i) n (get_or p i 0) (inside I p i first row) in
    let low = least-le (charge_of n c i) n (get_or q i 0) (inside I q i second row) in
    omega (arith, ints, high, low) in
    let most = sum_to-monotone (paid n c p) (λ i. paid n c q i +ℤ charge_range n c i) c.count each in
    subst (λ z. charged n c p ≤ℤ z) (sum_to-add (paid n c q) (charge_range n c) c.count) most

-- the costs of two permutations, the charges included
pub spread-le : (I : Problem) (c : Charges) (p q : List ℕ) → AreCharges I.size c → Permutes I p → Permutes I q → cost_with I c p ≤ℤ (cost_with I c q +ℤ spread I c)
spread-le I c p q charges first second =
    let flows = cost-le I p q first second in
    let pays = charged-le I c p q charges first second in
    omega (arith, ints, flows, pays)

sum-least : (f : ℕ → ℤ) (n : ℕ) → ((i : ℕ) → i < n → pos 0 ≤ℤ f i) → pos 0 ≤ℤ sum_to f n
sum-least f n each =
    let none = sum_to-zero (λ i. pos 0) n (λ i below. refl) in
    let most = sum_to-monotone (λ i. pos 0) f n each in
    omega (arith, ints, none, most)

pub times-least : (x y : ℤ) → pos 0 ≤ℤ x → pos 0 ≤ℤ y → pos 0 ≤ℤ (x *ℤ y)
times-least (pos a) (pos b) first second = let is : pos a *ℤ pos b ≡ pos (a * b) = refl in omega (arith, ints, is)
times-least (pos a) (negsuc b) first second = absurd (omega (arith, ints, second))
times-least (negsuc a) y first second = absurd (omega (arith, ints, first))

range-least : (f : ℕ → ℤ) (n : ℕ) → 0 < n → pos 0 ≤ℤ (greatest_to f n -ℤ least_to f n)
range-least f n some =
    let high = greatest-le f n 0 some in
    let low = least-le f n 0 some in
    omega (arith, ints, high, low)

-- the spread is not negative
pub spread-least : (I : Problem) (c : Charges) → 0 < I.size → pos 0 ≤ℤ spread I c
spread-least I c some =
    let n = I.size in
    let cells = mul-le 1 1 n n (omega (arith, some)) (omega (arith, some)) in
    let ranges = range-least (distance_at I) (n * n) (omega (arith, cells)) in
    let flows = sum-least (flow_size I) (n * n) (λ k below. omega (arith, ints)) in
    let pays = sum-least (charge_range n c) c.count (λ i below. range-least (charge_of n c i) n some) in
    let product = times-least (distance_range I) (sum_to (flow_size I) (n * n)) ranges flows in
    omega (arith, ints, product, pays)

-- a number that is not negative is its absolute value
pub abs-is : (z : ℤ) → pos 0 ≤ℤ z → pos (unsigned_abs z) ≡ z
abs-is (pos n) least = refl
abs-is (negsuc n) least = absurd (omega (arith, ints, least))

-- what the code computes
pub flow_size-made : (I : Problem) (k n : ℕ) (a z : ℤ) → n ≡ I.size → a ≡ entry I.size I.a (k / n) (k % n) → z ≡ pos (unsigned_abs a) → z ≡ flow_size I k
flow_size-made I k n a z size at is =
    is ∙ ap (λ w. pos (unsigned_abs w)) (at ∙ ap (λ m. entry I.size I.a (k / m) (k % m)) size ∙ flat-entry I.size k I.a)

pub distance-made : (I : Problem) (k n : ℕ) (z : ℤ) → n ≡ I.size → z ≡ entry I.size I.b (k / n) (k % n) → z ≡ distance_at I k
distance-made I k n z size at = at ∙ ap (λ m. entry I.size I.b (k / m) (k % m)) size ∙ flat-entry I.size k I.b

pub least-more : (f : ℕ → ℤ) (n : ℕ) (least next low : ℤ) → least ≡ least_to f n → next ≡ f n → low ≡ int_min least next → low ≡ least_to f (n + 1)
least-more f n least next low before here is = is ∙ ap₂ int_min before here ∙ sym (ap (least_to f) (add-one n))

pub greatest-more : (f : ℕ → ℤ) (n : ℕ) (greatest next high : ℤ) → greatest ≡ greatest_to f n → next ≡ f n → high ≡ int_max greatest next → high ≡ greatest_to f (n + 1)
greatest-more f n greatest next high before here is = is ∙ ap₂ int_max before here ∙ sym (ap (greatest_to f) (add-one n))

pub spread-made : (I : Problem) (c : Charges) (range flow product pays : ℤ) (u : ℕ) → 0 < I.size → range ≡ distance_range I → flow ≡ sum_to (flow_size I) (I.size * I.size) → product ≡ range *ℤ flow
    → pays ≡ sum_to (charge_range I.size c) c.count → u ≡ unsigned_abs (product +ℤ pays) → pos u ≡ spread I c
spread-made I c range flow product pays u some range_is flow_is product_made pays_is is =
    let whole : product +ℤ pays ≡ spread I c = ap₂ ◌+ℤ◌ (product_made ∙ ap₂ ◌*ℤ◌ range_is flow_is) pays_is in
    ap pos (is ∙ ap unsigned_abs whole) ∙ abs-is (spread I c) (spread-least I c some)
