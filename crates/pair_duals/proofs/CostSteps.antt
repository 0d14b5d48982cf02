-- The cost step divides the cost of each permutation: it divides what each facility costs alone, and what each two cost together.
use Rattle.std.proofs.Common.{◌≡◌, ◌≢◌, ℕ, zero, suc, ◌+◌, ◌*◌, ◌<◌, Bool, true, false, cond, refl, sym, ◌∙◌, ap, subst, arith, add-one, inl, inr, nat_eq, get_or, List}
use Rattle.std.specs.Prelude.{ℤ, pos, ◌+ℤ◌, ◌*ℤ◌, unsigned_abs, max}
use Rattle.std.specs.Int.{◌∣◌}
use Rattle.std.proofs.lemmas.Int.{ints}
use Rattle.std.proofs.lemmas.Nat.Gcd.{dvd_trans}
use Rattle.std.proofs.lemmas.Bool.{cases_lt, and_parts, and_from, false_from_ne_true, true≢false}
use Rattle.std.proofs.lemmas.Bool.Decides.{Decides-int_eq}
use Rattle.qap_cost.specs.Sum.{sum_to}
use Rattle.qap_cost.specs.Instance.{Problem, entry}
use Rattle.qap_cost.specs.Objective.{cost_of, pair_cost, row_cost}
use Rattle.qap_cost.proofs.Sums.{*ℤ-+ℤ, only_at, sum_to-same, sum_to-add, sum_to-only_at}
use Rattle.pair_duals.specs.CostOfPair.{cost_of_pair}
use Rattle.pair_duals.specs.CostStep.{Divides, DividesCosts, all_to, both_ways, gcd_of_diagonal, gcd_of_others, gcd_of_row, gcd_to, is_mirrored, is_row_mirrored, is_symmetric, on_diagonal, product_step, step_of}
use Rattle.pair_duals.specs.Reduced.{but, sum_but, sum_of_pairs}
use Rattle.pair_duals.proofs.Divisors.{Divides-add, Divides-from, Divides-product, Divides-sum, gcd-is, gcd_to-divides}
use Rattle.pair_duals.proofs.PairSums.{but_other, sum_to-but}

-- ---- what the divisors divide

gcd_of_others-divides : (f : ℕ → ℕ → ℤ) (n i j : ℕ) → i < n → j < n → i ≢ j → gcd_of_others f n ∣ unsigned_abs (f i j)
gcd_of_others-divides f n i j hi hj apart =
    let row : gcd_to (but i (f i)) n ∣ unsigned_abs (but i (f i) j) = gcd_to-divides (but i (f i)) n j hj in
    let whole : gcd_of_others f n ∣ gcd_to (but i (f i)) n = gcd_to-divides (gcd_of_row f n) n i hi in
    let other : but i (f i) j ≡ f i j = but_other i (f i) j (λ same. apart (sym same)) in
    dvd_trans (gcd_of_others f n) whole (subst (λ x. gcd_to (but i (f i)) n ∣ unsigned_abs x) other row)

-- a product step divides what facilities cost alone, and products of different entries
record StepDivides (I : Problem) (f g : ℕ → ℕ → ℤ) (d : ℕ) : Type 0 where
  alone : (i k : ℕ) → i < I.size → k < I.size → Divides d (entry I.size I.a i i *ℤ entry I.size I.b k k)
  products : (i j k l : ℕ) → i < I.size → j < I.size → k < I.size → l < I.size → i ≢ j → k ≢ l → Divides d (f i j *ℤ g k l)

product_step-divides : (I : Problem) (f g : ℕ → ℕ → ℤ) → StepDivides I f g (product_step I f g)
product_step-divides I f g =
    let n = I.size in
    let a = entry n I.a in
    let b = entry n I.b in
    let is = gcd-is (gcd_of_others f n * gcd_of_others g n) (gcd_of_diagonal a n * gcd_of_diagonal b n) in
    let d = product_step I f g in
    record {
      alone = λ i k hi hk.
          Divides-from d (a i i *ℤ b k k)
          (dvd_trans d is.1 (Divides-product (gcd_of_diagonal a n) (gcd_of_diagonal b n) (a i i) (b k k) (gcd_to-divides (on_diagonal a) n i hi) (gcd_to-divides (on_diagonal b) n k hk)));
      products = λ i j k l hi hj hk hl ij kl.
          Divides-from d (f i j *ℤ g k l)
          (dvd_trans d is.0 (Divides-product (gcd_of_others f n) (gcd_of_others g n) (f i j) (g k l) (gcd_of_others-divides f n i j hi hj ij) (gcd_of_others-divides g n k l hk hl kl)));
    }

-- ---- symmetry

all_to-each : (test : ℕ → Bool) (n i : ℕ) → all_to test n ≡ true → i < n → test i ≡ true
all_to-each test zero i all below = absurd (omega arith)
all_to-each test (suc n) i all below =
    let parts = and_parts (all_to test n) (test n) all in
    elim (cases_lt i n) [
      | inl earlier ↦ all_to-each test n i parts.0 earlier
      | inr last ↦ let same : n ≡ i = omega arith in subst (λ k. test k ≡ true) same parts.1
    ]

-- the test passes at one number more
pub all_to-more : (test : ℕ → Bool) (n : ℕ) → all_to test n ≡ true → test n ≡ true → all_to test (n + 1) ≡ true
all_to-more test n all this = ap (all_to test) (add-one n) ∙ and_from (all_to test n) (test n) all this

-- where it fails at one, it doesn't pass at all
pub all_to-fails : (test : ℕ → Bool) (n i : ℕ) → i < n → test i ≡ false → all_to test n ≡ false
all_to-fails test n i below fails = false_from_ne_true (all_to test n) (λ all. true≢false (sym (all_to-each test n i all below) ∙ fails))

is_symmetric-each : (f : ℕ → ℕ → ℤ) (n i j : ℕ) → is_symmetric f n ≡ true → i < n → j < n → f i j ≡ f j i
is_symmetric-each f n i j symmetric hi hj =
    let row : all_to (is_mirrored f i) n ≡ true = all_to-each (is_row_mirrored f n) n i symmetric hi in
    (Decides-int_eq (f i j) (f j i)).0 (all_to-each (is_mirrored f i) n j row hj)

-- ---- a cost, by pairs

one_of_both : (is : Bool) (x : ℤ) → cond is x (pos 0) +ℤ cond is (pos 0) x ≡ x
one_of_both true x = omega (arith, ints)
one_of_both false x = omega (arith, ints)

-- a sum, with its term at k apart
sum_to-but_one : (f : ℕ → ℤ) (k n : ℕ) → k < n → sum_to f n ≡ f k +ℤ sum_but k f n
sum_to-but_one f k n below =
    sym (sum_to-same (λ i. only_at f k i +ℤ but k f i) f n (λ i h. one_of_both (nat_eq i k) (f i)))
    ∙ sum_to-add (only_at f k) (but k f) n
    ∙ ap (λ z. z +ℤ sum_but k f n) (sum_to-only_at f k n below)

-- what each facility costs alone, and what each two of them cost together
cost-by_pairs : (I : Problem) (p : List ℕ) → cost_of I p ≡ sum_to (λ i. pair_cost I p i i) I.size +ℤ sum_of_pairs (λ i j. pair_cost I p i j +ℤ pair_cost I p j i) I.size
cost-by_pairs I p =
    let n = I.size in
    sum_to-same (row_cost I p) (λ i. pair_cost I p i i +ℤ sum_but i (pair_cost I p i) n) n (λ i below. sum_to-but_one (pair_cost I p i) i n below)
    ∙ sum_to-add (λ i. pair_cost I p i i) (λ i. sum_but i (pair_cost I p i) n) n
    ∙ ap (λ z. sum_to (λ i. pair_cost I p i i) n +ℤ z) (sum_to-but (pair_cost I p) n)

-- d divides what any facility costs alone anywhere, and what any two cost together
record DividesParts (I : Problem) (d : ℕ) : Type 0 where
  alone : (i k : ℕ) → i < I.size → k < I.size → Divides d (entry I.size I.a i i *ℤ entry I.size I.b k k)
  pairs : (i k j l : ℕ) → i < I.size → k < I.size → j < I.size → l < I.size → i ≢ j → k ≢ l → Divides d (cost_of_pair I i k j l)

DividesCosts-from : (I : Problem) (d : ℕ) → DividesParts I d → DividesCosts I d
DividesCosts-from I d parts = record {
  each = λ p permutes.
      let n = I.size in
      let at : (i : ℕ) → i < n → get_or p i 0 < n = λ i below. subst (λ m. get_or p i 0 < m) permutes.same_size (permutes.bijection.within i (subst (λ m. i < m) (sym permutes.same_size) below)) in
      let apart : (i j : ℕ) → i < n → j < n → i ≢ j → get_or p i 0 ≢ get_or p j 0 =
      λ i j hi hj ij same. ij (permutes.bijection.distinct i j (subst (λ m. i < m) (sym permutes.same_size) hi) (subst (λ m. j < m) (sym permutes.same_size) hj) same) in
      let alone = Divides-sum d (λ i. pair_cost I p i i) n (λ i hi. parts.alone i (get_or p i 0) hi (at i hi)) in
      let pairs = Divides-sum d (λ i. sum_to (λ j. pair_cost I p i j +ℤ pair_cost I p j i) i) n (λ i hi.
      Divides-sum d (λ j. pair_cost I p i j +ℤ pair_cost I p j i) i (λ j hj.
      let hj' : j < n = omega arith in
      let ij : i ≢ j = λ same. omega arith in
      parts.pairs i (get_or p i 0) j (get_or p j 0) hi (at i hi) hj' (at j hj') ij (apart i j hi hj' ij))) in
      subst (Divides d) (sym (cost-by_pairs I p)) (Divides-add d (sum_to (λ i. pair_cost I p i i) n) (sum_of_pairs (λ i j. pair_cost I p i j +ℤ pair_cost I p j i) n) alone pairs);
}

-- ---- the three products

plain-divides : (I : Problem) → DividesCosts I (product_step I (entry I.size I.a) (entry I.size I.b))
plain-divides I =
    let a = entry I.size I.a in
    let b = entry I.size I.b in
    let d = product_step I a b in
    let step = product_step-divides I a b in
    DividesCosts-from I d (record {
      alone = step.alone;
      pairs = λ i k j l hi hk hj hl ij kl.
          Divides-add d (a i j *ℤ b k l) (a j i *ℤ b l k) (step.products i j k l hi hj hk hl ij kl)
          (step.products j i l k hj hi hl hk (λ e. ij (sym e)) (λ e. kl (sym e)));
    })

-- a pair of facilities has one flow
symmetric_a-divides : (I : Problem) → is_symmetric (entry I.size I.a) I.size ≡ true → DividesCosts I (product_step I (entry I.size I.a) (both_ways (entry I.size I.b)))
symmetric_a-divides I symmetric =
    let a = entry I.size I.a in
    let b = entry I.size I.b in
    let d = product_step I a (both_ways b) in
    let step = product_step-divides I a (both_ways b) in
    DividesCosts-from I d (record {
      alone = step.alone;
      pairs = λ i k j l hi hk hj hl ij kl.
          let same : a i j ≡ a j i = is_symmetric-each a I.size i j symmetric hi hj in
          let whole : a i j *ℤ both_ways b k l ≡ cost_of_pair I i k j l = *ℤ-+ℤ (a i j) (b k l) (b l k) ∙ ap (λ x. a i j *ℤ b k l +ℤ x *ℤ b l k) same in
          subst (Divides d) whole (step.products i j k l hi hj hk hl ij kl);
    })

sum-times : (x y z : ℤ) → (x +ℤ y) *ℤ z ≡ x *ℤ z +ℤ y *ℤ z
sum-times x y z =
    let turned : (x +ℤ y) *ℤ z ≡ z *ℤ (x +ℤ y) = omega (arith, ints) in
    let back : z *ℤ x +ℤ z *ℤ y ≡ x *ℤ z +ℤ y *ℤ z = omega (arith, ints) in
    turned ∙ *ℤ-+ℤ z x y ∙ back

-- a pair of locations has one distance
symmetric_b-divides : (I : Problem) → is_symmetric (entry I.size I.b) I.size ≡ true → DividesCosts I (product_step I (both_ways (entry I.size I.a)) (entry I.size I.b))
symmetric_b-divides I symmetric =
    let a = entry I.size I.a in
    let b = entry I.size I.b in
    let d = product_step I (both_ways a) b in
    let step = product_step-divides I (both_ways a) b in
    DividesCosts-from I d (record {
      alone = step.alone;
      pairs = λ i k j l hi hk hj hl ij kl.
          let same : b k l ≡ b l k = is_symmetric-each b I.size k l symmetric hk hl in
          let whole : both_ways a i j *ℤ b k l ≡ cost_of_pair I i k j l = sum-times (a i j) (a j i) (b k l) ∙ ap (λ x. a i j *ℤ b k l +ℤ a j i *ℤ x) same in
          subst (Divides d) whole (step.products i j k l hi hj hk hl ij kl);
    })

-- ---- the greatest of them

one-divides : (I : Problem) → DividesCosts I 1
one-divides I = record { each = λ p permutes. (cost_of I p, omega (arith, ints)) }

-- d divides all costs, unless it is 0
abbrev DividesUnlessZero : Problem → ℕ → Type 0
DividesUnlessZero I d = 0 < d → DividesCosts I d

greater-divides : (I : Problem) (x y : ℕ) → DividesUnlessZero I x → DividesUnlessZero I y → DividesUnlessZero I (max x y)
greater-divides I x y hx hy some =
    elim (cases_lt x y) [
      | inl less ↦ let is : max x y ≡ y = omega arith in subst (DividesUnlessZero I) (sym is) hy some
      | inr more ↦ let is : max x y ≡ x = omega arith in subst (DividesUnlessZero I) (sym is) hx some
    ]

if-divides : (I : Problem) (applies : Bool) (d : ℕ) → (applies ≡ true → DividesCosts I d) → DividesUnlessZero I (cond applies d 0)
if-divides I true d h some = h refl
if-divides I false d h some = absurd (omega arith)

-- the cost step divides the cost of each permutation
pub step-divides : (I : Problem) → DividesCosts I (step_of I)
step-divides I =
    let a = entry I.size I.a in
    let b = entry I.size I.b in
    let by_a = product_step I a (both_ways b) in
    let by_b = product_step I (both_ways a) b in
    let p = product_step I a b in
    let q = cond (is_symmetric a I.size) by_a 0 in
    let r = cond (is_symmetric b I.size) by_b 0 in
    let hq = if-divides I (is_symmetric a I.size) by_a (symmetric_a-divides I) in
    let hr = if-divides I (is_symmetric b I.size) by_b (symmetric_b-divides I) in
    greater-divides I 1 (max p (max q r)) (λ some. one-divides I)
    (greater-divides I p (max q r) (λ some. plain-divides I) (greater-divides I q r hq hr)) (omega arith)
