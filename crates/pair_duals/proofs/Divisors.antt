-- The greatest common divisor is the number that each common divisor divides; multiples of a number.
use Rattle.std.proofs.Common.{◌≡◌, ℕ, zero, suc, ◌+◌, ◌*◌, ◌/◌, ◌%◌, ◌<◌, ◌≤◌, Bool, true, false, cond, refl, sym, ◌∙◌, ap, ap₂, subst, arith, add-one, inl, inr, nat_eq}
use Rattle.std.specs.Prelude.{ℤ, pos, negsuc, neg_ℤ, ◌+ℤ◌, ◌*ℤ◌, unsigned_abs, max, ◌&&◌}
use Rattle.std.specs.Int.{IsGcd, ◌∣◌}
use Rattle.std.proofs.lemmas.Int.{ints, unsigned_abs-mul}
use Rattle.std.proofs.lemmas.Nat.Gcd.{IsGcd-from_zero, IsGcd-from_mod, dvd-zero, dvd_trans, le_of_dvd, dvd_of_mod-eq-zero, mod-eq-zero_of_dvd}
use Rattle.std.proofs.Math.Nat.{eq-zero_of_zero-dvd, mod-lt, mul-div_cancel', le-max_left, le-max_right, max-le, mul-dvd-mul_left, mul-dvd-mul_right}
use Rattle.std.proofs.lemmas.Bool.{cases_lt, eqb-true, eq-eqb, and_parts, and_from}
use borrow.Author.Differences.{neg_is, product_is}
use Rattle.qap_cost.specs.Sum.{sum_to}
use Rattle.qap_cost.proofs.Sums.{*ℤ-+ℤ}
use Rattle.pair_duals.specs.CostStep.{Divides, greatest_divisor, gcd, gcd_to}

-- by Euclid's steps there is a greatest common divisor
euclid : (n x y : ℕ) → y ≤ n → (g : ℕ) × IsGcd x y g
euclid n x zero small = (x, IsGcd-from_zero x zero refl)
euclid zero x (suc y) small = absurd (omega arith)
euclid (suc n) x (suc y) small =
    let below : x % suc y < suc y = mod-lt x (omega arith) in
    let found = euclid n (suc y) (x % suc y) (omega arith) in
    (found.0, IsGcd-from_mod x (suc y) found.0 found.1)

-- whether a number divides both
abbrev divides_both : ℕ → ℕ → ℕ → Bool
divides_both d x y = nat_eq (x % d) 0 && nat_eq (y % d) 0

-- a number that divides both is no more than g, and g passes the test
greatest_step : (n x y g rest : ℕ) (b : Bool) → divides_both (suc n) x y ≡ b → IsGcd x y g → 0 < g → g ≤ suc n → (g ≤ n → rest ≡ g) → cond b (suc n) rest ≡ g
greatest_step n x y g rest true test is some small next =
    let parts = and_parts (nat_eq (x % suc n) 0) (nat_eq (y % suc n) 0) test in
    let divides : suc n ∣ g = is.2 (suc n) (dvd_of_mod-eq-zero (suc n) (eqb-true (x % suc n) 0 parts.0)) (dvd_of_mod-eq-zero (suc n) (eqb-true (y % suc n) 0 parts.1)) in
    let least : suc n ≤ g = le_of_dvd some divides in
    omega arith
greatest_step n x y g rest false test is some small next =
    elim (cases_lt n g) [
      | inl last ↦
          let same : g ≡ suc n = omega arith in
          let dx : x % suc n ≡ 0 = mod-eq-zero_of_dvd (suc n) (subst (λ d. d ∣ x) same is.0) in
          let dy : y % suc n ≡ 0 = mod-eq-zero_of_dvd (suc n) (subst (λ d. d ∣ y) same is.1) in
          let passes : divides_both (suc n) x y ≡ true = and_from (nat_eq (x % suc n) 0) (nat_eq (y % suc n) 0) (eq-eqb (x % suc n) 0 dx) (eq-eqb (y % suc n) 0 dy) in
          absurd (cc)
      | inr earlier ↦ next earlier
    ]

-- so the search for the greatest finds g
greatest-is : (n x y g : ℕ) → IsGcd x y g → 0 < g → g ≤ n → greatest_divisor n x y ≡ g
greatest-is zero x y g is some small = absurd (omega arith)
greatest-is (suc n) x y g is some small = greatest_step n x y g (greatest_divisor n x y) (divides_both (suc n) x y) refl is some small (λ earlier. greatest-is n x y g is some earlier)

greatest-within : (x y g : ℕ) → IsGcd x y g → g ≤ max x y
greatest-within zero zero g is = omega (arith, eq-zero_of_zero-dvd (is.2 0 (dvd-zero 0) (dvd-zero 0)))
greatest-within (suc x) y g is = omega (arith, le_of_dvd {m = g} {n = suc x} (omega arith) is.0, le-max_left (suc x) y)
greatest-within zero (suc y) g is = omega (arith, le_of_dvd {m = g} {n = suc y} (omega arith) is.1, le-max_right zero (suc y))

gcd-same : (x y g : ℕ) → IsGcd x y g → gcd x y ≡ g
gcd-same x y zero is = ap₂ gcd (eq-zero_of_zero-dvd is.0) (eq-zero_of_zero-dvd is.1)
gcd-same x y (suc g) is = greatest-is (max x y) x y (suc g) is (omega arith) (greatest-within x y (suc g) is)

-- it is the greatest common divisor
pub gcd-is : (x y : ℕ) → IsGcd x y (gcd x y)
gcd-is x y = let found = euclid y x y (omega arith) in subst (λ g. IsGcd x y g) (sym (gcd-same x y found.0 found.1)) found.1

-- and there is no other
pub gcd-unique : (x y g : ℕ) → IsGcd x y g → g ≡ gcd x y
gcd-unique x y g is = sym (gcd-same x y g is)

-- the greatest common divisor is no larger than the larger of the two
pub gcd-within : (x y : ℕ) → gcd x y ≤ max x y
gcd-within x y = greatest-within x y (gcd x y) (gcd-is x y)

-- the greatest common divisor of several numbers divides each
pub gcd_to-divides : (f : ℕ → ℤ) (n i : ℕ) → i < n → gcd_to f n ∣ unsigned_abs (f i)
gcd_to-divides f zero i below = absurd (omega arith)
gcd_to-divides f (suc n) i below =
    let is = gcd-is (gcd_to f n) (unsigned_abs (f n)) in
    elim (cases_lt i n) [
      | inl earlier ↦ dvd_trans (gcd_to f (suc n)) is.0 (gcd_to-divides f n i earlier)
      | inr last ↦ let same : n ≡ i = omega arith in subst (λ k. gcd_to f (suc n) ∣ unsigned_abs (f k)) same is.1
    ]

-- one number more
pub gcd_to-more : (f : ℕ → ℤ) (n d x new : ℕ) → d ≡ gcd_to f n → x ≡ unsigned_abs (f n) → new ≡ gcd d x → new ≡ gcd_to f (n + 1)
gcd_to-more f n d x new before this is = is ∙ ap₂ gcd before this ∙ ap (gcd_to f) (sym (add-one n))

-- the greatest common divisor is within a limit that both are within
pub gcd-below : (x y g limit : ℕ) → g ≡ gcd x y → x ≤ limit → y ≤ limit → g ≤ limit
gcd-below x y g limit is hx hy = omega (arith, gcd-within x y, max-le {a = x} {b = y} hx hy)

-- ---- multiples

-- what divides the absolute value divides the number
pub Divides-from : (g : ℕ) (x : ℤ) → g ∣ unsigned_abs x → Divides g x
Divides-from g (pos n) h = (pos (n / g), let e = mul-div_cancel' g h in omega (arith, ints, e))
Divides-from g (negsuc n) h = (neg_ℤ (pos (suc n / g)), let e = mul-div_cancel' g h in let opposite = neg_is (pos (suc n / g)) in omega (arith, ints, e, opposite, product_is (pos g) (neg_ℤ (pos (suc n / g))), ap (λ z. g * z) opposite.0, ap (λ z. g * z) opposite.1))

-- what divides two numbers divides their sum
pub Divides-add : (g : ℕ) (x y : ℤ) → Divides g x → Divides g y → Divides g (x +ℤ y)
Divides-add g x y h k = (h.0 +ℤ k.0, ap₂ ◌+ℤ◌ h.1 k.1 ∙ sym (*ℤ-+ℤ (pos g) h.0 k.0))

-- each number divides 0
pub Divides-zero : (g : ℕ) → Divides g (pos 0)
Divides-zero g = (pos 0, omega (arith, ints))

-- what divides each term divides the sum
pub Divides-sum : (g : ℕ) (f : ℕ → ℤ) (n : ℕ) → ((i : ℕ) → i < n → Divides g (f i)) → Divides g (sum_to f n)
Divides-sum g f zero h = Divides-zero g
Divides-sum g f (suc n) h = Divides-add g (sum_to f n) (f n) (Divides-sum g f n (λ i below. h i (omega arith))) (h n (omega arith))

-- a divisor of one number times a divisor of another divides their product
pub Divides-product : (d e : ℕ) (x y : ℤ) → d ∣ unsigned_abs x → e ∣ unsigned_abs y → d * e ∣ unsigned_abs (x *ℤ y)
Divides-product d e x y h k =
    subst (λ n. d * e ∣ n) (sym (unsigned_abs-mul x y))
    (dvd_trans (d * e) (mul-dvd-mul_right d h e) (mul-dvd-mul_left e (unsigned_abs x) k))
