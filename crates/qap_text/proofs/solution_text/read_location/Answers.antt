use Rattle.std.proofs.Common.{◌≡◌, ◌≢◌, ap, sym, subst, ◌∙◌, ℕ, zero, suc, ◌+◌, ◌^◌, ◌<◌, ◌≤◌, min, ℤ, pos, negsuc, inl, inr, arith}
use Rattle.std.specs.Prelude.{◌⊎◌, ◌≤ℤ◌, ◌<ℤ◌, unsigned_abs}
use Rattle.std.specs.Int.{w128}
use Rattle.std.proofs.lemmas.Bool.{cases_lt}
use Rattle.std.proofs.lemmas.Int.{ints, to_z-of_z, fits_signed_from_abs}
use Rattle.qap_io.specs.Number.{held}
use Rattle.qap_text.proofs.solution_text.read_location.Goals as goal

-- a number that is none of 1 to n, by what is read of it
none_of : (n : ℕ) (value z : ℤ) → n ≤ 256 → value ≡ held (10 ^ 25) z → ((k : ℕ) → k < n → value ≢ pos (k + 1)) → (z ≤ℤ pos 0) ⊎ (pos n <ℤ z)
none_of n value (negsuc m) small is none = inl (omega (arith, ints))
none_of n value (pos zero) small is none = inl (omega (arith, ints))
none_of n value (pos (suc m)) small is none =
    elim (cases_lt m n) [
      | inl below ↦
          let here : min (suc m) (10 ^ 25) ≡ m + 1 = omega arith in
          absurd (none m below (is ∙ ap pos here))
      | inr above ↦ inr (omega (arith, ints))
    ]

held_abs : (z : ℤ) → unsigned_abs (held (10 ^ 25) z) ≤ 10 ^ 25
held_abs (pos n) = omega arith
held_abs (negsuc n) = omega (arith, ints)

pub returns-in_default-from_one : goal.returns-in_default-from_one
returns-in_default-from_one c =
    let read = rw c.in-Some.is at c.in_ok-numeral.ensures in
    let value = c.in-Some.numeral.value in
    let small : unsigned_abs value ≤ 10 ^ 25 = subst (λ (v : ℤ). unsigned_abs v ≤ 10 ^ 25) (sym read.2) (held_abs read.0) in
    let same = to_z-of_z w128 value (fits_signed_from_abs w128 value (omega arith)) in
    let outside = none_of c.args.n value read.0 c.requires.small read.2 (λ k below e. c.in_default-from_one.ensures {u = tt} k below (same ∙ e)) in
    (c.in-Some.numeral.stop, read.0, read.1, elim outside [ inl low ↦ inl low | inr high ↦ inr (inl high) ])
