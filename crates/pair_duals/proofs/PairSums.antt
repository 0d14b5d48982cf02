-- Sums over all pairs of numbers.
use Rattle.std.proofs.Common.{◌≡◌, ◌≢◌, ℕ, zero, suc, ◌<◌, ◌≤◌, cond, refl, ◌∙◌, ap, ap₂, arith, nat_eq, inl, inr}
use Rattle.std.specs.Prelude.{ℤ, pos, ◌+ℤ◌, ◌-ℤ◌, ◌*ℤ◌, ◌≤ℤ◌}
use Rattle.std.proofs.lemmas.Int.{ints}
use Rattle.std.proofs.lemmas.Bool.{cases_lt, cond-true, cond-false, eq-eqb, ne_eqb}
use Rattle.qap_cost.specs.Sum.{sum_to}
use Rattle.qap_cost.proofs.Sums.{sum_to-same, sum_to-zero, sum_to-add, sum_to-scale, sum_to-monotone}
use Rattle.gilmore_lawler.proofs.Skips.{skip, skip-before, skip-after, sum_to-apart}
use Rattle.pair_duals.specs.Reduced.{sum_of_pairs, sum_but}

-- the same terms have the same sum
pub sum_of_pairs-same : (f g : ℕ → ℕ → ℤ) (m : ℕ) → ((r t : ℕ) → t < r → r < m → f r t ≡ g r t) → sum_of_pairs f m ≡ sum_of_pairs g m
sum_of_pairs-same f g m same =
    sum_to-same (λ r. sum_to (f r) r) (λ r. sum_to (g r) r) m (λ r hr. sum_to-same (f r) (g r) r (λ t ht. same r t ht hr))

-- a sum of sums of two terms is the two sums added
pub sum_of_pairs-add : (f g : ℕ → ℕ → ℤ) (m : ℕ) → sum_of_pairs (λ r t. f r t +ℤ g r t) m ≡ sum_of_pairs f m +ℤ sum_of_pairs g m
sum_of_pairs-add f g m =
    sum_to-same (λ r. sum_to (λ t. f r t +ℤ g r t) r) (λ r. sum_to (f r) r +ℤ sum_to (g r) r) m (λ r hr. sum_to-add (f r) (g r) r)
    ∙ sum_to-add (λ r. sum_to (f r) r) (λ r. sum_to (g r) r) m

-- a sum of differences of two terms is the difference of the two sums
pub sum_of_pairs-minus : (f g : ℕ → ℕ → ℤ) (m : ℕ) → sum_of_pairs (λ r t. f r t -ℤ g r t) m ≡ sum_of_pairs f m -ℤ sum_of_pairs g m
sum_of_pairs-minus f g m =
    let whole = sum_of_pairs-add (λ r t. f r t -ℤ g r t) g m in
    let back : sum_of_pairs (λ r t. (f r t -ℤ g r t) +ℤ g r t) m ≡ sum_of_pairs f m =
    sum_of_pairs-same (λ r t. (f r t -ℤ g r t) +ℤ g r t) f m (λ r t ht hr. omega (arith, ints)) in
    omega (arith, ints, whole, back)

-- a factor of each term is a factor of the sum
pub sum_of_pairs-scale : (c : ℤ) (f : ℕ → ℕ → ℤ) (m : ℕ) → sum_of_pairs (λ r t. c *ℤ f r t) m ≡ c *ℤ sum_of_pairs f m
sum_of_pairs-scale c f m =
    sum_to-same (λ r. sum_to (λ t. c *ℤ f r t) r) (λ r. c *ℤ sum_to (f r) r) m (λ r hr. sum_to-scale c (f r) r)
    ∙ sum_to-scale c (λ r. sum_to (f r) r) m

sum_to-least : (f : ℕ → ℤ) (n : ℕ) → ((i : ℕ) → i < n → pos 0 ≤ℤ f i) → pos 0 ≤ℤ sum_to f n
sum_to-least f n h =
    let none : sum_to (λ i. pos 0) n ≡ pos 0 = sum_to-zero (λ i. pos 0) n (λ i below. refl) in
    let more = sum_to-monotone (λ i. pos 0) f n h in
    omega (arith, ints, none, more)

-- where no term is less than nothing, the sum isn't
pub sum_of_pairs-least : (f : ℕ → ℕ → ℤ) (m : ℕ) → ((r t : ℕ) → t < r → r < m → pos 0 ≤ℤ f r t) → pos 0 ≤ℤ sum_of_pairs f m
sum_of_pairs-least f m h =
    sum_to-least (λ r. sum_to (f r) r) m (λ r hr. sum_to-least (f r) r (λ t ht. h r t ht hr))

-- the same for a sum over numbers
pub sum_to-nonnegative : (f : ℕ → ℤ) (n : ℕ) → ((i : ℕ) → i < n → pos 0 ≤ℤ f i) → pos 0 ≤ℤ sum_to f n
sum_to-nonnegative f n h = sum_to-least f n h

-- a sum over pairs, with those of s apart
pub sum_of_pairs-apart : (f : ℕ → ℕ → ℤ) (s n : ℕ) → s ≤ n → ((r t : ℕ) → f r t ≡ f t r) → sum_of_pairs f (suc n) ≡ sum_to (λ r. f (skip s r) s) n +ℤ sum_of_pairs (λ r t. f (skip s r) (skip s t)) n
sum_of_pairs-apart f s zero h both = refl
sum_of_pairs-apart f s (suc n) h both =
    elim (cases_lt n s) [
      | inl last ↦
          let e : s ≡ suc n = omega arith in
          let row : sum_to (λ r. f (skip s r) s) (suc n) ≡ sum_to (f (suc n)) (suc n) =
          sum_to-same (λ r. f (skip s r) s) (f (suc n)) (suc n) (λ r below.
          ap₂ f (skip-before s r (omega arith)) e ∙ both r (suc n)) in
          let others : sum_of_pairs (λ r t. f (skip s r) (skip s t)) (suc n) ≡ sum_of_pairs f (suc n) =
          sum_of_pairs-same (λ r t. f (skip s r) (skip s t)) f (suc n) (λ r t ht hr.
          ap₂ f (skip-before s r (omega arith)) (skip-before s t (omega arith))) in
          omega (arith, ints, row, others)
      | inr earlier ↦
          let ih : sum_of_pairs f (suc n) ≡ sum_to (λ r. f (skip s r) s) n +ℤ sum_of_pairs (λ r t. f (skip s r) (skip s t)) n =
          sum_of_pairs-apart f s n earlier both in
          let at_last : skip s n ≡ suc n = skip-after s n earlier in
          let row : sum_to (f (suc n)) (suc n) ≡ f (suc n) s +ℤ sum_to (λ t. f (suc n) (skip s t)) n = sum_to-apart (f (suc n)) s n earlier in
          let here : f (skip s n) s ≡ f (suc n) s = ap (λ k. f k s) at_last in
          let rest : sum_to (λ t. f (skip s n) (skip s t)) n ≡ sum_to (λ t. f (suc n) (skip s t)) n =
          ap (λ k. sum_to (λ t. f k (skip s t)) n) at_last in
          omega (arith, ints, ih, row, here, rest)
    ]

-- a term for another number than the one left out stays
pub but_other : (k : ℕ) (f : ℕ → ℤ) (j : ℕ) → j ≢ k → cond (nat_eq j k) (pos 0) (f j) ≡ f j
but_other k f j apart = cond-false (nat_eq j k) (pos 0) (f j) (ne_eqb j k apart)

but_same : (k : ℕ) (f : ℕ → ℤ) (j : ℕ) → j ≡ k → cond (nat_eq j k) (pos 0) (f j) ≡ pos 0
but_same k f j same = cond-true (nat_eq j k) (pos 0) (f j) (eq-eqb j k same)

-- what each has with each other one is what both have, over all pairs
pub sum_to-but : (f : ℕ → ℕ → ℤ) (m : ℕ) → sum_to (λ r. sum_but r (f r) m) m ≡ sum_of_pairs (λ r t. f r t +ℤ f t r) m
sum_to-but f zero = refl
sum_to-but f (suc m) =
    let ih = sum_to-but f m in
    let rows : sum_to (λ r. sum_but r (f r) (suc m)) m ≡ sum_to (λ r. sum_but r (f r) m +ℤ f r m) m =
    sum_to-same (λ r. sum_but r (f r) (suc m)) (λ r. sum_but r (f r) m +ℤ f r m) m (λ r below.
    ap (λ z. sum_but r (f r) m +ℤ z) (but_other r (f r) m (λ e. omega arith))) in
    let split = sum_to-add (λ r. sum_but r (f r) m) (λ r. f r m) m in
    let last : sum_but m (f m) m ≡ sum_to (f m) m =
    sum_to-same (λ j. cond (nat_eq j m) (pos 0) (f m j)) (f m) m (λ j below. but_other m (f m) j (λ e. omega arith)) in
    let own : cond (nat_eq m m) (pos 0) (f m m) ≡ pos 0 = but_same m (f m) m refl in
    let both = sum_to-add (f m) (λ t. f t m) m in
    omega (arith, ints, ih, rows, split, last, own, both)
