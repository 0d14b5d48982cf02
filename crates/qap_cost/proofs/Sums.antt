-- The laws of finite sums: what equal, added, scaled, exchanged, ordered, bounded and picked terms give.
use Rattle.std.proofs.Common.{◌≡◌, ◌≢◌, ℕ, zero, suc, ◌+◌, ◌*◌, ◌<◌, ◌≤◌, true, false, cond, refl, sym, ◌∙◌, ap, ap₂, arith, add-one, nat_eq}
use Rattle.std.specs.Prelude.{ℤ, pos, ◌+ℤ◌, ◌*ℤ◌, ◌≤ℤ◌, unsigned_abs}
use Rattle.std.proofs.lemmas.Int.{ints}
use Rattle.std.proofs.lemmas.Bool.{cond-true, cond-false, ne_eqb, eqb-true, eqb-false}
use borrow.Author.Differences.{up, down, sum_is_lem}
use Rattle.qap_cost.specs.Sum.{sum_to}

-- multiplication distributes over addition
pub *ℤ-+ℤ : (c a b : ℤ) → c *ℤ (a +ℤ b) ≡ c *ℤ a +ℤ c *ℤ b
*ℤ-+ℤ c a b = omega (arith, ints, ap (λ x. up c * x) (sum_is_lem a b), ap (λ x. down c * x) (sum_is_lem a b))

-- equal terms, equal sums
pub sum_to-same : (f g : ℕ → ℤ) (n : ℕ) → ((i : ℕ) → i < n → f i ≡ g i) → sum_to f n ≡ sum_to g n
sum_to-same f g zero same = refl
sum_to-same f g (suc n) same = ap₂ ◌+ℤ◌ (sum_to-same f g n (λ i h. same i (omega arith))) (same n (omega arith))

-- a sum of terms that are all 0 is 0
pub sum_to-zero : (f : ℕ → ℤ) (n : ℕ) → ((i : ℕ) → i < n → f i ≡ pos 0) → sum_to f n ≡ pos 0
sum_to-zero f zero h = refl
sum_to-zero f (suc n) h =
    let ih : sum_to f n ≡ pos 0 = sum_to-zero f n (λ i below. h i (omega arith)) in
    let last : f n ≡ pos 0 = h n (omega arith) in
    omega (arith, ints)

-- a sum of sums is the sum of both
pub sum_to-add : (f g : ℕ → ℤ) (n : ℕ) → sum_to (λ i. f i +ℤ g i) n ≡ sum_to f n +ℤ sum_to g n
sum_to-add f g zero = refl
sum_to-add f g (suc n) = let ih = sum_to-add f g n in omega (arith, ints)

-- a constant factor may be taken out of a sum
pub sum_to-scale : (c : ℤ) (f : ℕ → ℤ) (n : ℕ) → sum_to (λ i. c *ℤ f i) n ≡ c *ℤ sum_to f n
sum_to-scale c f zero = omega (arith, ints)
sum_to-scale c f (suc n) = ap (λ s. s +ℤ c *ℤ f n) (sum_to-scale c f n) ∙ sym (*ℤ-+ℤ c (sum_to f n) (f n))

-- a double sum by rows is the double sum by columns
pub sum_to-exchange : (f : ℕ → ℕ → ℤ) (n m : ℕ) → sum_to (λ i. sum_to (f i) m) n ≡ sum_to (λ j. sum_to (λ i. f i j) n) m
sum_to-exchange f zero m = sym (sum_to-zero (λ j. pos 0) m (λ i h. refl))
sum_to-exchange f (suc n) m =
    ap (λ s. s +ℤ sum_to (f n) m) (sum_to-exchange f n m)
    ∙ sym (sum_to-add (λ j. sum_to (λ i. f i j) n) (f n) m)

-- where no term is above the other sum's, neither is the sum
pub sum_to-monotone : (f g : ℕ → ℤ) (n : ℕ) → ((i : ℕ) → i < n → f i ≤ℤ g i) → sum_to f n ≤ℤ sum_to g n
sum_to-monotone f g zero h = omega (arith, ints)
sum_to-monotone f g (suc n) h =
    let ih : sum_to f n ≤ℤ sum_to g n = sum_to-monotone f g n (λ i below. h i (omega arith)) in
    let last : f n ≤ℤ g n = h n (omega arith) in
    omega (arith, ints)

-- a sum of n terms no further from 0 than m is no further from 0 than n * m
pub sum_to-bound : (f : ℕ → ℤ) (n m : ℕ) → ((i : ℕ) → i < n → unsigned_abs (f i) ≤ m) → unsigned_abs (sum_to f n) ≤ n * m
sum_to-bound f zero m h = omega arith
sum_to-bound f (suc n) m h =
    let ih : unsigned_abs (sum_to f n) ≤ n * m = sum_to-bound f n m (λ i below. h i (omega arith)) in
    let last : unsigned_abs (f n) ≤ m = h n (omega arith) in
    omega (arith, ints)

-- the term at k, and 0 elsewhere
abbrev pub only_at : (ℕ → ℤ) → ℕ → ℕ → ℤ
only_at f k i = cond (nat_eq i k) (f i) (pos 0)

-- a sum that stops before its one term is 0
pub sum_to-only_past : (f : ℕ → ℤ) (k n : ℕ) → n ≤ k → sum_to (only_at f k) n ≡ pos 0
sum_to-only_past f k n h =
    sum_to-zero (only_at f k) n (λ i below. cond-false (nat_eq i k) (f i) (pos 0) (ne_eqb i k (λ e. omega arith)))

-- a sum picks its one term
pub sum_to-only_at : (f : ℕ → ℤ) (k n : ℕ) → k < n → sum_to (only_at f k) n ≡ f k
sum_to-only_at f k zero h = absurd (omega arith)
sum_to-only_at f k (suc n) h =
    elim (nat_eq n k) as (λ t. nat_eq n k ≡ t → sum_to (only_at f k) (suc n) ≡ f k) [
      | true ↦ λ e.
          let same : n ≡ k = eqb-true n k e in
          let past : sum_to (only_at f k) n ≡ pos 0 = sum_to-only_past f k n (omega arith) in
          let here : only_at f k n ≡ f k = cond-true (nat_eq n k) (f n) (pos 0) e ∙ ap f same in
          omega (arith, ints)
      | false ↦ λ e.
          let other : n ≢ k = eqb-false n k e in
          let below : sum_to (only_at f k) n ≡ f k = sum_to-only_at f k n (omega arith) in
          let here : only_at f k n ≡ pos 0 = cond-false (nat_eq n k) (f n) (pos 0) e in
          omega (arith, ints)
    ] refl

-- what a loop keeps that adds up terms of at most m
pub record AddsUp (total : ℤ) (f : ℕ → ℤ) (n m : ℕ) : Type 0 where
  pub value : total ≡ sum_to f n
  pub small : unsigned_abs total ≤ n * m

-- a sum of one term more adds that term
pub sum_to-more : (f : ℕ → ℤ) (n : ℕ) → sum_to f (n + 1) ≡ sum_to f n +ℤ f n
sum_to-more f n = ap (sum_to f) (add-one n)

-- the loop goes on by a term of at most m
pub AddsUp-more : (total term new : ℤ) (f : ℕ → ℤ) (n m : ℕ) → AddsUp total f n m → term ≡ f n → unsigned_abs term ≤ m → new ≡ total +ℤ term → AddsUp new f (n + 1) m
AddsUp-more total term new f n m h is small sum = record {
  value = sum ∙ ap₂ ◌+ℤ◌ h.value is ∙ sym (sum_to-more f n);
  small = let old = h.small in omega (arith, ints);
}
