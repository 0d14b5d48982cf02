-- A number whose zeros at the end behind the point are cut is whole at no power of ten below its places.
use Rattle.std.proofs.Common.{◌≡◌, ◌≢◌, ℕ, suc, ◌+◌, ◌-◌, ◌*◌, ◌^◌, ◌<◌, ◌≤◌, Bool, true, false, List, [], ◌∷◌, ◌++◌, length, take, drop, Option, Some, None, ℤ, pos, unsigned_abs, refl, sym, ap, subst, ◌∙◌, inl, inr, arith, append_assoc}
use Rattle.std.specs.Prelude.{◌⊎◌, ◌==◌, ◌&&◌, if◌then◌else◌, nat_le, not, position}
use Rattle.std.specs.Option.{option_map}
use Rattle.std.specs.List.{list_all}
use Rattle.std.proofs.Math.Nat.{le_of_mul-le-mul_left, pow-le-pow_right, pow-suc}
use Rattle.std.proofs.lemmas.Bool.{cases_Bool, cases_lt, eqb-false, false≢true, leb-true}
use Rattle.std.proofs.lemmas.Nat.{pow-add}
use Rattle.std.proofs.lemmas.Int.{unsigned_abs-mul}
use Rattle.plan_table.specs.Decimal.{before_kept, are_digits, decimal_of, is_digit, is_point, magnitude_of, pointed, signed_of, unsigned, unsigned_at, unsigned_of, with_sign, without_zeros}
use Rattle.plan_table.specs.Least.{IsWholeAt}
use Rattle.plan_table.specs.declared.decimal.Decimal.{Decimal}
use Rattle.plan_table.specs.declared.decimal.Unsigned.{Unsigned}
use Rattle.plan_table.proofs.Digits.{magnitude_of-push, unsigned_abs-with_sign}

-- digits end with another digit than zero, or are none
abbrev EndsKept : List ℕ → Type 0
EndsKept digits = (digits ≡ []) ⊎ ((front : List ℕ) × (last : ℕ) × (digits ≡ front ++ last ∷ []) × (48 < last) × (last ≤ 57))

before_kept-ends : (b : ℕ) (kept : List ℕ) → 48 ≤ b → b ≤ 57 → EndsKept kept → EndsKept (before_kept b kept)
before_kept-ends b [] low high ends =
    elim (cases_Bool (b == 48)) [
      | inl zero_digit ↦ inl (ap (λ t. if t then [] else b ∷ []) zero_digit)
      | inr other ↦
          let some : b ≢ 48 = eqb-false b 48 other in
          inr ([], b, ap (λ t. if t then [] else b ∷ []) other, omega arith, high)
    ]
before_kept-ends b (k ∷ ks) low high (inl none) = absurd (cc)
before_kept-ends b (k ∷ ks) low high (inr ends) =
    let (front, last, is, above, below) = ends in inr (b ∷ front, last, ap (λ l. b ∷ l) is, above, below)

-- where two tests pass together, each passes
pub and_parts : (a b : Bool) → (a && b) ≡ true → (a ≡ true) × (b ≡ true)
and_parts true b both = (refl, both)
and_parts false b both = absurd (false≢true both)

without_zeros-ends : (digits : List ℕ) → list_all is_digit digits ≡ true → EndsKept (without_zeros digits)
without_zeros-ends [] all = inl refl
without_zeros-ends (b ∷ bs) all =
    let parts = and_parts (is_digit b) (list_all is_digit bs) all in
    let range = and_parts (nat_le 48 b) (nat_le b 57) parts.0 in
    before_kept-ends b (without_zeros bs) (leb-true 48 b range.0) (leb-true b 57 range.1) (without_zeros-ends bs parts.1)

-- there is nothing behind the point, or the last digit is no zero
abbrev IsReduced : Unsigned → Type 0
IsReduced u =
    (u.places ≡ 0) ⊎ ((tens : ℕ) × (last : ℕ) × (u.magnitude ≡ tens * 10 + last) × (0 < last) × (last < 10))

unsigned-reduced : (digits kept : List ℕ) → EndsKept kept → IsReduced (unsigned digits kept)
unsigned-reduced digits kept (inl none) = inl (ap (λ (l : List ℕ). length l) none)
unsigned-reduced digits kept (inr ends) =
    let (front, last, is, above, below) = ends in
    let magnitude =
    ap (λ l. magnitude_of (digits ++ l)) is
    ∙ ap magnitude_of (sym (append_assoc digits front (last ∷ [])))
    ∙ magnitude_of-push (digits ++ front) last in
    inr (magnitude_of (digits ++ front), last - 48, magnitude, omega arith, omega arith)

pointed-reduced : (digits fraction : List ℕ) (u : Unsigned) → pointed digits fraction ≡ Some u → IsReduced u
pointed-reduced digits fraction u spelled =
    let made = Some (unsigned digits (without_zeros fraction)) in
    elim (cases_Bool (are_digits digits && are_digits fraction)) [
      | inl digits_only ↦
          let both = and_parts (are_digits digits) (are_digits fraction) digits_only in
          let all = and_parts (not (length fraction == 0)) (list_all is_digit fraction) both.1 in
          let some : made ≡ Some u = sym (ap (λ t. if t then made else None) digits_only) ∙ spelled in
          let is : unsigned digits (without_zeros fraction) ≡ u = cc in
          subst IsReduced is (unsigned-reduced digits (without_zeros fraction) (without_zeros-ends fraction all.1))
      | inr other ↦
          let none : None ≡ Some u = sym (ap (λ t. if t then made else None) other) ∙ spelled in
          absurd (cc)
    ]

unsigned_at-reduced : (word : List ℕ) (point : Option ℕ) (u : Unsigned) → unsigned_at word point ≡ Some u → IsReduced u
unsigned_at-reduced word None u spelled =
    let made = Some (unsigned word []) in
    elim (cases_Bool (are_digits word)) [
      | inl digits_only ↦
          let some : made ≡ Some u = sym (ap (λ t. if t then made else None) digits_only) ∙ spelled in
          let is : unsigned word [] ≡ u = cc in
          inl (ap (λ (v : Unsigned). v.places) (sym is))
      | inr other ↦
          let none : None ≡ Some u = sym (ap (λ t. if t then made else None) other) ∙ spelled in
          absurd (cc)
    ]
unsigned_at-reduced word (Some point) u spelled = pointed-reduced (take point word) (drop (point + 1) word) u spelled

-- a number with its sign is a number that was spelled, given that sign
pub signed-parts : (negative : Bool) (spelled : Option Unsigned) (d : Decimal) → option_map (with_sign negative) spelled ≡ Some d → (u : Unsigned) × (spelled ≡ Some u) × (with_sign negative u ≡ d)
signed-parts negative None d is = absurd (cc)
signed-parts negative (Some u) d is = (u, refl, cc)

-- what a decimal number is made of
abbrev IsMade : Decimal → Type 0
IsMade d = (negative : Bool) × (u : Unsigned) × (with_sign negative u ≡ d) × IsReduced u

signed-made : (negative : Bool) (word : List ℕ) (d : Decimal) → signed_of negative word ≡ Some d → IsMade d
signed-made negative word d spelled =
    let (u, is, made) = signed-parts negative (unsigned_of word) d spelled in
    (negative, u, made, unsigned_at-reduced word (position is_point word) u is)

if_either : (t : Bool) (x y : Option Decimal) → ((if t then x else y) ≡ x) ⊎ ((if t then x else y) ≡ y)
if_either true x y = inl refl
if_either false x y = inr refl

decimal-made : (word : List ℕ) (d : Decimal) → decimal_of word ≡ Some d → IsMade d
decimal-made [] d spelled = absurd (cc)
decimal-made (b ∷ bs) d spelled =
    let plain = signed_of false (b ∷ bs) in
    let other = if b == 45 then signed_of true bs else plain in
    elim (if_either (b == 43) (signed_of false bs) other) [
      | inl plus ↦ signed-made false bs d (sym plus ∙ spelled)
      | inr no_plus ↦ elim (if_either (b == 45) (signed_of true bs) plain) [
        | inl minus ↦ signed-made true bs d (sym minus ∙ sym no_plus ∙ spelled)
        | inr no_minus ↦ signed-made false (b ∷ bs) d (sym no_minus ∙ sym no_plus ∙ spelled)
      ]
    ]

-- a number whose last digit is no zero isn't ten times another
not_by_tens : (magnitude other t more tens last : ℕ) → magnitude * 10 ^ t ≡ other * 10 ^ (t + suc more) → magnitude ≡ tens * 10 + last → 0 < last → last < 10 → ⊥
not_by_tens magnitude other t more tens last equal is some small =
    let apart : 10 ^ (t + suc more) ≡ 10 ^ t * (10 ^ more * 10) = pow-add 10 t (suc more) ∙ ap (λ k. 10 ^ t * k) (pow-suc 10 more) in
    let tenfold = other * 10 ^ more * 10 in
    let scaled : 10 ^ t * magnitude ≡ 10 ^ t * tenfold = omega (arith, ap (λ k. other * k) apart) in
    let positive : 0 < 10 ^ t = omega (arith, pow-le-pow_right {n = 10} (omega arith) {i = 0} {j = t} (omega arith)) in
    let below : magnitude ≤ tenfold = le_of_mul-le-mul_left {k = 10 ^ t} (omega arith) positive in
    let above : tenfold ≤ magnitude = le_of_mul-le-mul_left {k = 10 ^ t} (omega arith) positive in
    absurd (by_tens (other * 10 ^ more) (omega arith))
  where
    by_tens : (k : ℕ) → tens * 10 + last ≡ k * 10 → ⊥
    by_tens k same = absurd (omega arith)

-- where a power of ten makes a number whole, the number has no more places
made-least : (d : Decimal) (power : ℕ) (z : ℤ) → IsMade d → IsWholeAt d power z → d.places ≤ power
made-least d power z is_made is_whole =
    let (negative, u, made, reduced) = is_made in
    elim reduced [
      | inl none ↦ let same : d.places ≡ u.places = ap (λ (x : Decimal). x.places) (sym made) in omega arith
      | inr ends ↦ elim (cases_lt power d.places) [
        | inr most ↦ most
        | inl less ↦
            let (tens, last, is, some, small) = ends in
            let size : unsigned_abs d.number ≡ u.magnitude = ap (λ (x : Decimal). unsigned_abs x.number) (sym made) ∙ unsigned_abs-with_sign negative u in
            let equal : unsigned_abs d.number * 10 ^ power ≡ unsigned_abs z * 10 ^ d.places = sym (unsigned_abs-mul d.number (pos (10 ^ power))) ∙ ap unsigned_abs is_whole ∙ unsigned_abs-mul z (pos (10 ^ d.places)) in
            let more = d.places - power - 1 in
            let places : d.places ≡ power + suc more = omega arith in
            absurd (not_by_tens (unsigned_abs d.number) (unsigned_abs z) power more tens last (equal ∙ ap (λ k. unsigned_abs z * 10 ^ k) places) (size ∙ is) some small)
      ]
    ]

-- a number spelled behind its sign is whole at no power of ten below its places
pub signed-least : (negative : Bool) (word : List ℕ) (d : Decimal) (power : ℕ) (z : ℤ) → signed_of negative word ≡ Some d → IsWholeAt d power z → d.places ≤ power
signed-least negative word d power z spelled is_whole = made-least d power z (signed-made negative word d spelled) is_whole

-- a number that a word spells is whole at no power of ten below its places
pub places-least : (word : List ℕ) (d : Decimal) (power : ℕ) (z : ℤ) → decimal_of word ≡ Some d → IsWholeAt d power z → d.places ≤ power
places-least word d power z spelled is_whole = made-least d power z (decimal-made word d spelled) is_whole
