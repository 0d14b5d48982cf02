-- Digits, one after another, and the zeros at their end.
use Rattle.std.proofs.Common.{◌≡◌, ◌≢◌, ℕ, ◌+◌, ◌-◌, ◌*◌, ◌<◌, zero, suc, Bool, true, false, Option, Some, None, pos, unsigned_abs, neg_ℤ, arith, ap₂, List, [], ◌∷◌, ◌++◌, length, map, take, get_or, refl, sym, ap, ◌∙◌, append_assoc}
use Rattle.std.specs.Prelude.{if◌then◌else◌, ◌==◌, min}
use Rattle.std.specs.Option.{option_map}
use Rattle.std.specs.Int.Digits.{number_from_digits}
use Rattle.std.proofs.lemmas.Bool.{ne_eqb}
use Rattle.std.proofs.lemmas.List.{map-append, take_more}
use Rattle.std.proofs.lemmas.Int.Digits.{number_push}
use Rattle.plan_table.specs.Decimal.{before_kept, held_magnitude, held_unsigned, magnitude_of, max_entry, max_number, unsigned, with_sign, without_zeros, IsNumberFault}
use Rattle.plan_table.specs.declared.decimal.Unsigned.{Unsigned}
use Rattle.plan_table.specs.declared.decimal.NumberFault.TheVariants.{TooLarge}

-- one digit more at the end
pub magnitude_of-push : (front : List ℕ) (digit : ℕ) → magnitude_of (front ++ digit ∷ []) ≡ magnitude_of front * 10 + (digit - 48)
magnitude_of-push front digit =
    ap (number_from_digits 10) (map-append (λ b. b - 48) front (digit ∷ [])) ∙ number_push 10 (map (λ b. b - 48) front) (digit - 48)

-- one digit more behind other digits
pub magnitude_of-more : (front digits : List ℕ) (i : ℕ) → i < length digits → magnitude_of (front ++ take (i + 1) digits) ≡ magnitude_of (front ++ take i digits) * 10 + (get_or digits i 0 - 48)
magnitude_of-more front digits i inside =
    ap (λ l. magnitude_of (front ++ l)) (take_more digits i 0 inside)
    ∙ ap magnitude_of (sym (append_assoc front (take i digits) (get_or digits i 0 ∷ [])))
    ∙ magnitude_of-push (front ++ take i digits) (get_or digits i 0)

-- a zero more at the end is cut too
pub without_zeros-zero : (xs : List ℕ) → without_zeros (xs ++ 48 ∷ []) ≡ without_zeros xs
without_zeros-zero [] = refl
without_zeros-zero (x ∷ xs) = ap (before_kept x) (without_zeros-zero xs)

before_last : (x : ℕ) (xs : List ℕ) (b : ℕ) → before_kept x (xs ++ b ∷ []) ≡ x ∷ (xs ++ b ∷ [])
before_last x [] b = refl
before_last x (y ∷ ys) b = refl

-- where another digit is the last, nothing is cut
pub without_zeros-other : (xs : List ℕ) (b : ℕ) → (b == 48) ≡ false → without_zeros (xs ++ b ∷ []) ≡ xs ++ b ∷ []
without_zeros-other [] b other = ap (λ t. if t then [] else b ∷ []) other
without_zeros-other (x ∷ xs) b other = ap (before_kept x) (without_zeros-other xs b other) ∙ before_last x xs b

-- a held magnitude and the count of the fraction's digits make the held number
pub held-made : (whole fraction : List ℕ) (m p : ℕ) (u : Unsigned) → u ≡ record { magnitude = m; places = p } → m ≡ held_magnitude (whole ++ fraction) → p ≡ length fraction → u ≡ held_unsigned (unsigned whole fraction)
held-made whole fraction m p u is magnitude places =
    let both : ℕ → ℕ → Unsigned = λ m p. record { magnitude = m; places = p } in
    is ∙ ap₂ both magnitude places

-- a sign doesn't change how far a number is from zero
pub unsigned_abs-with_sign : (negative : Bool) (u : Unsigned) → unsigned_abs (with_sign negative u).number ≡ u.magnitude
unsigned_abs-with_sign false u = refl
unsigned_abs-with_sign true u = unsigned_abs-neg u.magnitude
  where
    unsigned_abs-neg : (m : ℕ) → unsigned_abs (neg_ℤ (pos m)) ≡ m
    unsigned_abs-neg zero = refl
    unsigned_abs-neg (suc m) = refl

-- a number that is held above the largest entry is too large
pub too_large : (negative : Bool) (spelled : Option Unsigned) (u : Unsigned) → Some u ≡ option_map held_unsigned spelled → max_entry < u.magnitude → IsNumberFault (option_map (with_sign negative) spelled) TooLarge
too_large negative None u is large = cc
too_large negative (Some v) u is large =
    let held : u ≡ held_unsigned v = cc in
    let magnitude : u.magnitude ≡ min v.magnitude (max_number + 1) = ap (λ (w : Unsigned). w.magnitude) held in
    let far = unsigned_abs-with_sign negative v in
    (with_sign negative v, refl, omega arith)

-- a zero at the end may go
pub zero_goes : (kept front digits : List ℕ) (last : ℕ) → kept ≡ front ++ last ∷ [] → last ≡ 48 → without_zeros kept ≡ without_zeros digits → without_zeros front ≡ without_zeros digits
zero_goes kept front digits last is zero_last so_far =
    sym (without_zeros-zero front) ∙ ap (λ b. without_zeros (front ++ b ∷ [])) (sym zero_last) ∙ sym (ap without_zeros is) ∙ so_far

-- before another digit nothing goes
pub other_stays : (kept front digits : List ℕ) (last : ℕ) → kept ≡ front ++ last ∷ [] → last ≢ 48 → without_zeros kept ≡ without_zeros digits → kept ≡ without_zeros digits
other_stays kept front digits last is other so_far =
    is ∙ sym (without_zeros-other front last (ne_eqb last 48 other)) ∙ sym (ap without_zeros is) ∙ so_far
