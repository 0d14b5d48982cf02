-- Numbers that the standard library's `parse` reads.
use Rattle.std.proofs.Common.{◌≡◌, ◌≢◌, ℕ, ◌^◌, ◌<◌, ◌≤◌, true, ◌&&◌, List, [], ◌∷◌, length, drop, Result, Ok, Err, MatchOption, refl, sym, ap, subst, ◌∙◌, ℤ, inl, inr, slice_index, arith, lit<}
use Rattle.std.proofs.lemmas.Bool.{false≢true}
use Rattle.std.specs.Int.{w128}
use Rattle.std.specs.Char.{is_ascii_digit}
use Rattle.std.specs.List.{list_all}
use Rattle.std.specs.Result.{result_ok}
use Rattle.std.specs.Str.{IsAscii, all_ascii_digits}
use Rattle.std.specs.Str.Parse.{digits_value, ParsesUnsigned, ParsesSigned}
use Rattle.std.proofs.lemmas.Fmt.{IsAscii-from_digits}
use Rattle.std.proofs.lemmas.Str.Ascii.{IsAscii-cons}
use Rattle.std.proofs.lemmas.Str.Parse.{IsNumeralModel, numerals_by_value, tells_all_ascii_digits, parse_digits, parse_signed_digits, parse_signed_minus, digit_at}
use Rattle.space_script.specs.Number.{IsCount, IsInteger}

same_test : (word : List ℕ) → all_ascii_digits word ≡ list_all is_ascii_digit word
same_test [] = refl
same_test (c ∷ cs) = ap (λ rest. is_ascii_digit c && rest) (same_test cs)

own : IsNumeralModel (λ ds. list_all is_ascii_digit ds ≡ true) (digits_value 10)
own = record {
  to = λ ds digits. (numerals_by_value _ tells_all_ascii_digits).to ds (same_test ds ∙ digits);
  from = λ ds digits. sym (same_test ds) ∙ (numerals_by_value _ tells_all_ascii_digits).from ds digits;
  same = λ ds digits. refl;
}

-- digits are ASCII
pub ascii_digits : (word : List ℕ) → list_all is_ascii_digit word ≡ true → IsAscii word
ascii_digits word digits = IsAscii-from_digits word (own.to word digits)

-- and so are a minus sign and digits
pub ascii_negated : (digits : List ℕ) → list_all is_ascii_digit digits ≡ true → IsAscii (45 ∷ digits)
ascii_negated digits all = IsAscii-cons 45 digits (lit< tt) (ascii_digits digits all)

-- digits that `parse` reads as a number of 64 bits
pub count_of_parse : {E : Type 0} (word : List ℕ) (r : Result ℕ E) → ParsesUnsigned 64 10 word r → 0 < length word → list_all is_ascii_digit word ≡ true
    → MatchOption (result_ok r) ((n : ℕ) → IsCount word n → ⊥) (IsCount word)
count_of_parse {E = E} word (Ok n) parsed some digits =
    let read = parse_digits own {E = E} 64 word (Ok n) parsed digits in
    record {
      numeral = record { some = some; digits = digits; value = sym read.1 };
      fits = subst (λ m. m < 2 ^ 64) (sym read.1) read.0.1;
    }
count_of_parse {E = E} word (Err e) parsed some digits =
    λ n count. parse_digits own {E = E} 64 word (Err e) parsed digits (some, subst (λ m. m < 2 ^ 64) (sym count.numeral.value) count.fits)

minus_begins_no_digits : (digits : List ℕ) → list_all is_ascii_digit (45 ∷ digits) ≡ true → ⊥
minus_begins_no_digits digits all = false≢true all

-- digits that `parse` reads as a number of 128 bits
pub plain_of_parse : {E : Type 0} (word : List ℕ) (r : Result ℤ E) → ParsesSigned w128 10 word r → 0 < length word → list_all is_ascii_digit word ≡ true
    → slice_index word 0 ≢ 45 → MatchOption (result_ok r) ((z : ℤ) → IsInteger word z → ⊥) (IsInteger word)
plain_of_parse {E = E} word (Ok z) parsed some digits unsigned =
    let read = parse_signed_digits own {E = E} w128 word (Ok z) parsed digits in
    inl (record {
      size = digits_value 10 word;
      numeral = record { some = some; digits = digits; value = refl };
      fits = read.0.1;
      value = read.1;
    })
plain_of_parse {E = E} word (Err e) parsed some digits unsigned = λ z integer. elim integer [
  | inl plain ↦ parse_signed_digits own {E = E} w128 word (Err e) parsed digits (some, subst (λ m. m < 2 ^ 127) (sym plain.numeral.value) plain.fits)
  | inr negated ↦ unsigned (ap (λ l. slice_index l 0) negated.is)
]

-- a minus sign and digits that `parse` reads as a number of 128 bits
pub negated_of_parse : {E : Type 0} (digits : List ℕ) (r : Result ℤ E) → ParsesSigned w128 10 (45 ∷ digits) r → 0 < length digits
    → list_all is_ascii_digit digits ≡ true → MatchOption (result_ok r) ((z : ℤ) → IsInteger (45 ∷ digits) z → ⊥) (IsInteger (45 ∷ digits))
negated_of_parse {E = E} digits (Ok z) parsed some all =
    let read = parse_signed_minus own {E = E} w128 (45 ∷ digits) (Ok z) parsed refl in
    inr (record {
      digits = digits;
      is = refl;
      size = digits_value 10 digits;
      numeral = record { some = some; digits = all; value = refl };
      fits = read.0.2;
      value = read.1;
    })
negated_of_parse {E = E} digits (Err e) parsed some all = λ z integer. elim integer [
  | inl plain ↦ minus_begins_no_digits digits plain.numeral.digits
  | inr negated ↦ parse_signed_minus own {E = E} w128 (45 ∷ digits) (Err e) parsed refl
      (all, some, subst (λ m. m ≤ 2 ^ 127) (sym negated.numeral.value ∙ ap (λ l. digits_value 10 (drop 1 l)) (sym negated.is)) negated.fits)
]

-- nothing but digits behind a minus sign spells a number
pub no_negated : (digits : List ℕ) → (list_all is_ascii_digit digits ≡ true → length digits ≡ 0) → (z : ℤ) → IsInteger (45 ∷ digits) z → ⊥
no_negated digits none z integer = elim integer [
  | inl plain ↦ minus_begins_no_digits digits plain.numeral.digits
  | inr negated ↦
      let same : digits ≡ negated.digits = ap (drop 1) negated.is in
      let empty : length negated.digits ≡ 0 = subst (λ l. length l ≡ 0) same (none (subst (λ l. list_all is_ascii_digit l ≡ true) (sym same) negated.numeral.digits)) in
      omega (arith, empty, negated.numeral.some)
]

-- the first of some digits is one
pub first_digit : (word : List ℕ) → 0 < length word → list_all is_ascii_digit word ≡ true → (48 ≤ slice_index word 0) × (slice_index word 0 ≤ 57)
first_digit word some digits = let first = digit_at word 0 (own.to word digits) some in (first.0, first.1)
