-- Multiples of a step below a bound.
use Rattle.std.proofs.Common.{◌≡◌, ℕ, ◌*◌, ℤ, refl, ap, arith}
use Rattle.std.specs.Prelude.{pos, negsuc, ◌+ℤ◌, ◌-ℤ◌, ◌*ℤ◌, ◌<ℤ◌, ◌≤ℤ◌, ◌↔◌}
use Rattle.std.proofs.lemmas.Int.{ints, by_lt_z}
use Rattle.qap_cost.proofs.Sums.{*ℤ-+ℤ}
use Rattle.proof_tree.specs.Valid.{ReachesBound}

scaled-least : (s : ℕ) (z : ℤ) → pos 0 ≤ℤ z → pos 0 ≤ℤ (pos s *ℤ z)
scaled-least s (pos d) h = let is : pos s *ℤ pos d ≡ pos (s * d) = refl in omega (arith, ints, is)
scaled-least s (negsuc d) h = absurd (omega (arith, ints, h))

-- a number that is no larger than another isn't once both are scaled
pub scaled-monotone : (s : ℕ) (a b : ℤ) → a ≤ℤ b → (pos s *ℤ a) ≤ℤ (pos s *ℤ b)
scaled-monotone s a b h =
    let split = *ℤ-+ℤ (pos s) a (b -ℤ a) in
    let back : a +ℤ (b -ℤ a) ≡ b = omega (arith, ints) in
    let whole : pos s *ℤ (a +ℤ (b -ℤ a)) ≡ pos s *ℤ b = ap (λ z. pos s *ℤ z) back in
    let more = scaled-least s (b -ℤ a) (omega (arith, ints, h)) in
    omega (arith, ints, split, whole, more)

-- only the greatest multiple below the bound matters
pub reaches-greatest : (step scale : ℕ) (bound value k : ℤ) → (pos step *ℤ k) <ℤ bound → bound ≤ℤ (pos step *ℤ k +ℤ pos step) → (ReachesBound step bound scale value ↔ ((pos scale *ℤ (pos step *ℤ k)) <ℤ value))
reaches-greatest step scale bound value k below next = (
  λ reaches. reaches k below,
  λ above j less.
      by_lt_z k j
      (λ past.
      let split = *ℤ-+ℤ (pos step) k (pos 1) in
      let one : pos step *ℤ pos 1 ≡ pos step = omega (arith, ints) in
      let far = scaled-monotone step (k +ℤ pos 1) j (omega (arith, ints, past)) in
      absurd (omega (arith, ints, split, one, far, next, less)))
      (λ here.
      let most = scaled-monotone scale (pos step *ℤ j) (pos step *ℤ k) (scaled-monotone step j k here) in
      omega (arith, ints, most, above)),
)
