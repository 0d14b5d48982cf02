-- Numbers at the front of a text, with their signs.
use Rattle.std.proofs.Common.{◌≡◌, ◌≢◌, ℕ, zero, suc, ◌+◌, ◌^◌, ◌≤◌, List, ◌∷◌, ◌++◌, take, drop, get_or, ℤ, pos, negsuc, min, unsigned_abs, sym, ap, ◌∙◌, add-one, arith, to_z, of_z}
use Rattle.std.specs.Prelude.{neg_ℤ}
use Rattle.std.specs.Int.{w128}
use Rattle.std.proofs.lemmas.Int.{to_z-of_z, fits_signed_from_abs}
use Rattle.qap_lines.specs.Number.{IsDecimal, IsNumber}
use Rattle.qap_io.specs.Digits.{magnitude_of}
use Rattle.qap_lines.specs.Numeral.{IsFront, IsFrontDecimal, IsFrontNumber, HasNoFrontDecimal, HasNoFrontNumber}
use Rattle.qap_lines.proofs.Words.{no_minus, decimal_fronts}

-- the 128 bits of a number held to 10^25 are that number
pub reads_wide : (z : ℤ) → unsigned_abs z ≤ 10 ^ 25 → to_z w128 (of_z w128 z) ≡ z
reads_wide z h = to_z-of_z w128 z (fits_signed_from_abs w128 z (omega arith))

-- a number of at most 10^25 is exact in 128 bits
pub reads_positive : (z : ℤ) (m : ℕ) → z ≡ pos m → m ≤ 10 ^ 25 → to_z w128 (of_z w128 z) ≡ pos m
reads_positive z m is small = ap (λ y. to_z w128 (of_z w128 y)) is ∙ reads_wide (pos m) small

-- the same for its negative
pub reads_negative : (z : ℤ) (m : ℕ) → z ≡ neg_ℤ (pos m) → m ≤ 10 ^ 25 → to_z w128 (of_z w128 z) ≡ neg_ℤ (pos m)
reads_negative z zero is small = ap (λ y. to_z w128 (of_z w128 y)) is ∙ reads_wide (pos 0) small
reads_negative z (suc m) is small = ap (λ y. to_z w128 (of_z w128 y)) is ∙ reads_wide (negsuc m) small

-- a number without a sign at the front of a text is a number there
pub IsFrontNumber-positive : (text : List ℕ) (count magnitude : ℕ) (value : ℤ) → IsFrontDecimal text count magnitude → value ≡ pos magnitude → IsFrontNumber text count value
IsFrontNumber-positive text count magnitude value found is = record {
  in_text = found.in_text;
  front = found.front;
  number = pos found.number;
  spelled = found.spelled;
  is = is ∙ ap pos found.value;
}

-- where there is none, and the text doesn't begin with a minus, no number is at its front
pub HasNoFrontNumber-positive : (text : List ℕ) → HasNoFrontDecimal text → get_or text 0 0 ≢ 45 → HasNoFrontNumber text
HasNoFrontNumber-positive text found other = record { none = none }
  where
    none : (word : List ℕ) (z : ℤ) → IsFront text word → IsNumber word z → ⊥
    none word (pos n) front number = found.none word n front number
    none word (negsuc n) front number =
        other (ap (λ l. get_or l 0 0) front.is ∙ ap (λ l. get_or (l ++ front.rest) 0 0) number.1)

-- what follows a minus sign
behind_minus : (text word digits : List ℕ) (front : IsFront (45 ∷ text) word) → word ≡ 45 ∷ digits → IsFront text digits
behind_minus text word digits front is = record {
  rest = front.rest;
  is = ap (drop 1) (front.is ∙ ap (λ l. l ++ front.rest) is);
  ends = front.ends;
}

-- where there is none behind a minus, no number is at the front
pub HasNoFrontNumber-negative : (text : List ℕ) → HasNoFrontDecimal text → HasNoFrontNumber (45 ∷ text)
HasNoFrontNumber-negative text found = record { none = none }
  where
    none : (word : List ℕ) (z : ℤ) → IsFront (45 ∷ text) word → IsNumber word z → ⊥
    none word (pos n) front number = no_minus word front.rest text n (sym front.is) number
    none word (negsuc n) front number =
        found.none number.0 (suc n) (behind_minus text word number.0 front number.1) number.2

-- where zero stands behind a minus, no number is at the front
pub HasNoFrontNumber-minus_zero : (text : List ℕ) (count magnitude : ℕ) → IsFrontDecimal text count magnitude → magnitude ≡ 0 → HasNoFrontNumber (45 ∷ text)
HasNoFrontNumber-minus_zero text count magnitude found is = record { none = none }
  where
    none : (word : List ℕ) (z : ℤ) → IsFront (45 ∷ text) word → IsNumber word z → ⊥
    none word (pos n) front number = no_minus word front.rest text n (sym front.is) number
    none word (negsuc n) front number =
        let behind = behind_minus text word number.0 front number.1 in
        let same = decimal_fronts number.0 behind.rest (take count text) found.front.rest (suc n) found.number (sym behind.is ∙ found.front.is) number.2 found.spelled behind.ends found.front.ends in
        let value : suc n ≡ found.number = sym number.2.value ∙ ap magnitude_of same.0 ∙ found.spelled.value in
        let held : magnitude ≡ min found.number (10 ^ 25) = found.value in
        omega arith

-- where another number without a sign stands behind a minus, its negative is at the front
pub IsFrontNumber-negative : (text : List ℕ) (count magnitude : ℕ) (value : ℤ) → IsFrontDecimal text count magnitude → magnitude ≢ 0 → value ≡ neg_ℤ (pos magnitude) → IsFrontNumber (45 ∷ text) (count + 1) value
IsFrontNumber-negative text count magnitude value found some is = go found.number found.spelled found.value
  where
    word : take (count + 1) (45 ∷ text) ≡ 45 ∷ take count text
    word = ap (λ k. take k (45 ∷ text)) (add-one count)

    go : (n : ℕ) → IsDecimal (take count text) n → magnitude ≡ min n (10 ^ 25) → IsFrontNumber (45 ∷ text) (count + 1) value
    go zero spelled value_is = absurd (some (omega arith))
    go (suc n) spelled value_is = record {
      in_text = omega (arith, found.in_text);
      front = record {
        rest = found.front.rest;
        is = ap (λ l. 45 ∷ l) found.front.is ∙ sym (ap (λ l. l ++ found.front.rest) word);
        ends = found.front.ends;
      };
      number = negsuc n;
      spelled = (take count text, word, spelled);
      is = is ∙ ap (λ m. neg_ℤ (pos m)) value_is;
    }
