-- What a spelled number is worth over a power of ten.
use Rattle.std.proofs.Common.{◌≡◌, ◌≢◌, ℕ, zero, suc, ◌+◌, ◌-◌, ◌*◌, ◌^◌, ◌<◌, ◌≤◌, Bool, true, false, List, Option, Some, None, ℤ, pos, negsuc, neg_ℤ, ◌*ℤ◌, unsigned_abs, refl, sym, ap, subst, ◌∙◌, arith}
use Rattle.std.specs.Prelude.{if◌then◌else◌, min, MatchOption}
use Rattle.std.specs.Option.{option_map}
use Rattle.std.proofs.Math.Nat.{eq_of_mul-eq-mul_right, mul-le-mul_left, pow-le-pow_right}
use Rattle.std.proofs.lemmas.Nat.{pow-add}
use Rattle.std.proofs.lemmas.Int.{unsigned_abs-mul}
use Rattle.plan_table.specs.Decimal.{decimal_of, held_unsigned, max_number, signed_of, unsigned_of, with_sign}
use Rattle.plan_table.specs.Least.{IsWholeAt}
use Rattle.plan_table.specs.Spelling.{IsWorth, IsWorthNone, SpellsJust, SpellsNone}
use Rattle.plan_table.specs.declared.decimal.Decimal.{Decimal}
use Rattle.plan_table.specs.declared.decimal.Unsigned.{Unsigned}
use Rattle.plan_table.proofs.Digits.{unsigned_abs-with_sign}
use Rattle.plan_table.proofs.LeastPlaces.{signed-least, signed-parts}
use Rattle.plan_table.proofs.Scaling.{neg_times, power_more}

ten_power : (k : ℕ) → 0 < 10 ^ k
ten_power k = omega (arith, pow-le-pow_right {n = 10} (omega arith) {i = 0} {j = k} (omega arith))

-- what a power of ten does to a magnitude
pub at_least : (m power : ℕ) → m ≤ m * 10 ^ power
at_least m power =
    let one : 1 ≤ 10 ^ power = omega (arith, ten_power power) in
    omega (arith, mul-le-mul_left m one)

-- a magnitude raised once more is ten times as large
pub raised-more : (m value i : ℕ) → value ≡ m * 10 ^ i → value * 10 ≡ m * 10 ^ (i + 1)
raised-more m value i is = omega (arith, ap (λ k. m * k) (power_more i), ap (λ k. k * 10) is)

-- a magnitude beyond a limit at one power is beyond it at each larger one
pub beyond : (limit m value i power : ℕ) → i < power → value ≡ m * 10 ^ i → limit < value * 10 → limit < m * 10 ^ power
beyond limit m value i power less is far =
    let more = mul-le-mul_left m (pow-le-pow_right {n = 10} (omega arith) {i = i + 1} {j = power} (omega arith)) in
    omega (arith, far, more, raised-more m value i is)

-- how far from zero a number is over a power of ten that has all its places
size_at : (n : ℤ) (p places : ℕ) (z : ℤ) → p ≤ places → n *ℤ pos (10 ^ places) ≡ z *ℤ pos (10 ^ p) → unsigned_abs z ≡ unsigned_abs n * 10 ^ (places - p)
size_at n p places z enough is_whole =
    let k = places - p in
    let sum : places ≡ k + p = omega arith in
    let apart : 10 ^ places ≡ 10 ^ k * 10 ^ p = ap (λ m. 10 ^ m) sum ∙ pow-add 10 k p in
    let equal : unsigned_abs n * 10 ^ places ≡ unsigned_abs z * 10 ^ p = sym (unsigned_abs-mul n (pos (10 ^ places))) ∙ ap unsigned_abs is_whole ∙ unsigned_abs-mul z (pos (10 ^ p)) in
    let scaled : unsigned_abs z * 10 ^ p ≡ unsigned_abs n * 10 ^ k * 10 ^ p = omega (arith, equal, ap (λ m. unsigned_abs n * m) apart) in
    eq_of_mul-eq-mul_right (10 ^ p) (ten_power p) (unsigned_abs z) (unsigned_abs n * 10 ^ k) scaled

-- a number that isn't zero, times another, has the sign that it had
signs_differ : (a b m : ℕ) → 0 < m → pos a *ℤ pos m ≢ negsuc b *ℤ pos m
signs_differ a b m some = λ same.
    let size : suc b * m ≡ suc (suc b * m - 1) = omega arith in
    let less : negsuc b *ℤ pos m ≡ negsuc (suc b * m - 1) = ap (λ k. neg_ℤ (pos k)) size in
    let apart : pos (a * m) ≡ negsuc (suc b * m - 1) = same ∙ less in
    absurd (cc apart)

-- equal products have equal factors
same_factor : (y z : ℤ) (m : ℕ) → 0 < m → y *ℤ pos m ≡ z *ℤ pos m → y ≡ z
same_factor (pos a) (pos b) m some same =
    let sizes : a * m ≡ b * m = cc in
    ap pos (eq_of_mul-eq-mul_right m some a b sizes)
same_factor (pos a) (negsuc b) m some same = absurd (signs_differ a b m some same)
same_factor (negsuc a) (pos b) m some same = absurd (signs_differ b a m some (sym same))
same_factor (negsuc a) (negsuc b) m some same =
    let sizes : suc a * m ≡ suc b * m = sym (unsigned_abs-mul (negsuc a) (pos m)) ∙ ap unsigned_abs same ∙ unsigned_abs-mul (negsuc b) (pos m) in
    let equal : suc a ≡ suc b = eq_of_mul-eq-mul_right m some (suc a) (suc b) sizes in
    cc

-- a decimal number is worth one number at most
worth_once : (d : Decimal) (places : ℕ) (y z : ℤ) → IsWholeAt d places y → IsWholeAt d places z → y ≡ z
worth_once d places y z first second = same_factor y z (10 ^ d.places) (ten_power d.places) (sym first ∙ second)

-- where no number is spelled, there is no worth over a power of ten
pub none_worth : (negative : Bool) (spelled : Option Unsigned) (places : ℕ) → None ≡ option_map held_unsigned spelled → IsWorthNone (option_map (with_sign negative) spelled) places
none_worth negative None places is = λ d some. absurd (cc)
none_worth negative (Some u) places is = absurd (cc)

-- what is held is less than what is spelled, if anything, and has its places
abbrev IsHeld : Unsigned → Unsigned → Type 0
IsHeld u v = (u.magnitude ≡ min v.magnitude (max_number + 1)) × (u.places ≡ v.places)

is_held : (u v : Unsigned) (spelled : Option Unsigned) → Some u ≡ option_map held_unsigned spelled → spelled ≡ Some v → IsHeld u v
is_held u v None is some = absurd (cc)
is_held u v (Some w) is some =
    let held : u ≡ held_unsigned v = cc in
    (ap (λ (x : Unsigned). x.magnitude) held, ap (λ (x : Unsigned). x.places) held)

-- a number with more places than the power of ten has isn't whole over it
pub too_fine : (negative : Bool) (word : List ℕ) (u : Unsigned) (places : ℕ) → Some u ≡ option_map held_unsigned (unsigned_of word) → places < u.places → IsWorthNone (signed_of negative word) places
too_fine negative word u places is fine = λ d spelled z small is_whole.
    let least = signed-least negative word d places z spelled is_whole in
    let (v, some, made) = signed-parts negative (unsigned_of word) d spelled in
    let held = is_held u v (unsigned_of word) is some in
    let same : v.places ≡ d.places = ap (λ (x : Decimal). x.places) made in
    absurd (omega arith)

-- nor is one in range that is too large
pub too_far : (negative : Bool) (word : List ℕ) (u : Unsigned) (places : ℕ) → Some u ≡ option_map held_unsigned (unsigned_of word) → u.places ≤ places
    → max_number < u.magnitude * 10 ^ (places - u.places) → IsWorthNone (signed_of negative word) places
too_far negative word u places is enough far = λ d spelled z small is_whole.
    let (v, some, made) = signed-parts negative (unsigned_of word) d spelled in
    let held = is_held u v (unsigned_of word) is some in
    let same : d.places ≡ u.places = ap (λ (x : Decimal). x.places) (sym made) ∙ sym held.1 in
    let size : unsigned_abs d.number ≡ v.magnitude = ap (λ (x : Decimal). unsigned_abs x.number) (sym made) ∙ unsigned_abs-with_sign negative v in
    let places_same : 10 ^ (places - d.places) ≡ 10 ^ (places - u.places) = ap (λ k. 10 ^ (places - k)) same in
    let least : u.magnitude ≤ v.magnitude = omega arith in
    let more = mul-le-mul_left (10 ^ (places - u.places)) least in
    let away = size_at d.number d.places places z (omega arith) is_whole in
    let worth : unsigned_abs z ≡ v.magnitude * 10 ^ (places - u.places) = away ∙ ap (λ k. k * 10 ^ (places - d.places)) size ∙ ap (λ k. v.magnitude * k) places_same in
    absurd (omega (arith, small, far, more, worth))

-- digits and zeros behind them, with a sign
times_power : (v m p places : ℕ) → p ≤ places → m ≡ v * 10 ^ (places - p) → v * 10 ^ places ≡ m * 10 ^ p
times_power v m p places enough is =
    let k = places - p in
    let sum : places ≡ k + p = omega arith in
    let apart : 10 ^ places ≡ 10 ^ k * 10 ^ p = ap (λ l. 10 ^ l) sum ∙ pow-add 10 k p in
    omega (arith, ap (λ l. v * l) apart, ap (λ l. l * 10 ^ p) is)

signed_power : (negative : Bool) (v : Unsigned) (m places : ℕ) → v.places ≤ places → m ≡ v.magnitude * 10 ^ (places - v.places)
    → IsWholeAt (with_sign negative v) places (if negative then neg_ℤ (pos m) else pos m)
signed_power false v m places enough is = ap pos (times_power v.magnitude m v.places places enough is)
signed_power true v m places enough is =
    neg_times v.magnitude (10 ^ places) ∙ ap (λ k. neg_ℤ (pos k)) (times_power v.magnitude m v.places places enough is) ∙ sym (neg_times m (10 ^ v.places))

size_signed : (negative : Bool) (m : ℕ) → unsigned_abs (if negative then neg_ℤ (pos m) else pos m) ≡ m
size_signed false m = refl
size_signed true zero = refl
size_signed true (suc m) = refl

-- a magnitude raised to the power, within range and with its sign, is what the number is worth
pub worth_of : (negative : Bool) (spelled : Option Unsigned) (u : Unsigned) (places m : ℕ) (z : ℤ) → Some u ≡ option_map held_unsigned spelled → u.places ≤ places
    → m ≡ u.magnitude * 10 ^ (places - u.places) → m ≤ max_number → z ≡ (if negative then neg_ℤ (pos m) else pos m) → IsWorth (option_map (with_sign negative) spelled) places z
worth_of negative None u places m z is enough worth small signed = absurd (cc)
worth_of negative (Some v) u places m z is enough worth small signed =
    let held = is_held u v (Some v) is refl in
    let inside : u.magnitude ≤ max_number = omega (arith, at_least u.magnitude (places - u.places), worth, small) in
    let exact : u.magnitude ≡ v.magnitude = omega arith in
    let fits : m ≡ v.magnitude * 10 ^ (places - v.places) = worth ∙ ap (λ k. k * 10 ^ (places - u.places)) exact ∙ ap (λ k. v.magnitude * 10 ^ (places - k)) held.1 in
    let here : v.places ≤ places = omega arith in (
      with_sign negative v,
      refl,
      subst (λ (x : ℤ). unsigned_abs x ≤ max_number) (sym signed) (subst (λ k. k ≤ max_number) (sym (size_signed negative m)) small),
      subst (λ (x : ℤ). IsWholeAt (with_sign negative v) places x) (sym signed) (signed_power negative v m places here fits),
    )

-- of the word's decimal number, what the word spells
spells_none : (word : List ℕ) (places : ℕ) → IsWorthNone (decimal_of word) places → SpellsNone word places
spells_none word places none = λ z small spells. none spells.decimal spells.spelled z small spells.same

spells_just : (word : List ℕ) (places : ℕ) (z : ℤ) → IsWorth (decimal_of word) places z → SpellsJust word places z
spells_just word places z worth =
    let (d, spelled, small, is_whole) = worth in
    record {
      spells = record { decimal = d; spelled = spelled; same = is_whole };
      small = small;
      once = λ y other.
          let same : other.decimal ≡ d = one_decimal (decimal_of word) other.decimal d other.spelled spelled in
          worth_once d places y z (whole_same other.decimal d places y same other.same) is_whole;
    }
  where
    one_decimal : (o : Option Decimal) (a b : Decimal) → o ≡ Some a → o ≡ Some b → a ≡ b
    one_decimal o a b first second = cc

    whole_same : (a b : Decimal) (k : ℕ) (y : ℤ) → a ≡ b → IsWholeAt a k y → IsWholeAt b k y
    whole_same a b k y same is_whole = rw same at is_whole

-- what a word's number is worth over a power of ten is what the word spells
pub spelled_of : (word : List ℕ) (places : ℕ) (found : Option ℤ) → MatchOption found (IsWorthNone (decimal_of word) places) (IsWorth (decimal_of word) places)
    → MatchOption found (SpellsNone word places) (SpellsJust word places)
spelled_of word places None none = spells_none word places none
spelled_of word places (Some z) worth = spells_just word places z worth
