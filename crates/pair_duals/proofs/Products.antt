-- Products of entries and a scale, as the code computes them.
use Rattle.std.proofs.Common.{◌≡◌, ℕ, ◌*◌, ◌^◌, ◌≤◌, w64, to_z, of_z, lit<, arith, sym, ◌∙◌, ap, ap₂}
use Rattle.std.specs.Prelude.{ℤ, pos, ◌+ℤ◌, ◌*ℤ◌, unsigned_abs, FitsSigned}
use Rattle.std.proofs.lemmas.Int.{ints, to_z-of_z, fits_signed_mul, fits_signed_from_abs}
use Rattle.std.proofs.lemmas.Nat.{mul-le}
use borrow.Author.Differences.{up, down, product_is}
use Rattle.qap_cost.specs.Instance.{Problem, entry}
use Rattle.qap_cost.specs.Range.{InRange}
use Rattle.qap_cost.proofs.Objectives.{reads_entry}
use Rattle.qap_cost.proofs.Sums.{*ℤ-+ℤ}
use Rattle.pair_duals.specs.CostOfPair.{cost_of_pair}
use Rattle.pair_duals.specs.Limits.{Limits, AreEnough}

-- a scale times one factor, times the other, is the scale times the product
pub scale-assoc : (s : ℕ) (a b : ℤ) → (pos s *ℤ a) *ℤ b ≡ pos s *ℤ (a *ℤ b)
scale-assoc s a b =
    let q = product_is (pos s) a in
    let p = product_is a b in
    omega (arith, ints, ap (λ z. z * up b) q.0, ap (λ z. z * down b) q.0, ap (λ z. z * up b) q.1, ap (λ z. z * down b) q.1, ap (λ z. s * z) p.0, ap (λ z. s * z) p.1)

-- a scaled product is read as it was computed
pub scaled_read : (s : ℕ) (x a b : ℤ) → x ≡ pos s → s ≤ 1048576 → InRange a → FitsSigned w64 a → FitsSigned w64 b
    → to_z w64 (of_z w64 (to_z w64 (of_z w64 x) *ℤ to_z w64 (of_z w64 a))) *ℤ to_z w64 (of_z w64 b) ≡ pos s *ℤ (a *ℤ b)
scaled_read s x a b is small a_range a_fits b_fits =
    let s_small : unsigned_abs (pos s) ≤ 1048576 = small in
    let s_fits : FitsSigned w64 (pos s) = fits_signed_from_abs w64 (pos s) (omega (arith, small)) in
    ap₂ (λ u v. to_z w64 (of_z w64 (u *ℤ v)) *ℤ to_z w64 (of_z w64 b)) (ap (λ z. to_z w64 (of_z w64 z)) is ∙ to_z-of_z w64 (pos s) s_fits) (to_z-of_z w64 a a_fits)
    ∙ ap₂ ◌*ℤ◌ (to_z-of_z w64 (pos s *ℤ a) (fits_signed_mul w64 (pos s) a 1048576 1000000000 s_small a_range (lit< tt))) (to_z-of_z w64 b b_fits)
    ∙ scale-assoc s a b

-- the two products of a pair
pub pair_read : (I : Problem) (s i k j l : ℕ) (a b a' b' x y z : ℤ) → a ≡ entry I.size I.a i j → InRange a → b ≡ entry I.size I.b k l → InRange b → a' ≡ entry I.size I.a j i → InRange a' → b' ≡ entry I.size I.b l k → InRange b'
    → x ≡ pos s *ℤ (to_z w64 (of_z w64 a) *ℤ to_z w64 (of_z w64 b)) → y ≡ pos s *ℤ (to_z w64 (of_z w64 a') *ℤ to_z w64 (of_z w64 b')) → z ≡ x +ℤ y → z ≡ pos s *ℤ cost_of_pair I i k j l
pair_read I s i k j l a b a' b' x y z ea ra eb rb ea' ra' eb' rb' ex ey ez =
    ez
    ∙ ap₂ ◌+ℤ◌
    (ex ∙ ap₂ (λ u v. pos s *ℤ (u *ℤ v)) (reads_entry a ra ∙ ea) (reads_entry b rb ∙ eb))
    (ey ∙ ap₂ (λ u v. pos s *ℤ (u *ℤ v)) (reads_entry a' ra' ∙ ea') (reads_entry b' rb' ∙ eb'))
    ∙ sym (*ℤ-+ℤ (pos s) (entry I.size I.a i j *ℤ entry I.size I.b k l) (entry I.size I.a j i *ℤ entry I.size I.b l k))

-- every limit is within that of sums
pub record AreRoomy (m : Limits) : Type 0 where
  pub cost : 2 * m.cost ≤ m.sum
  pub pair : 2 * m.pair ≤ m.sum
  pub dual : 4 * m.dual ≤ m.sum
  pub start : 2 * m.start ≤ m.sum
  pub reach : 2 * m.reach ≤ m.sum
  pub dual_reach : m.dual ≤ m.reach
  pub wide : m.sum ≤ 10 ^ 34

-- where limits are enough, every one is within that of sums
pub roomy : (m : Limits) → AreEnough m → AreRoomy m
roomy m h =
    let a = h.pair in
    let b = h.reach in
    let c = h.sum in
    let d = h.value in
    let one : 1 * m.sum ≤ m.size * m.sum = mul-le _ _ _ _ h.positive (omega arith) in
    record { cost = omega arith; pair = omega arith; dual = omega arith; start = omega arith; reach = omega arith; dual_reach = omega arith; wide = omega arith }
