-- The words of numbers.
use Rattle.std.proofs.Common.{◌≡◌, ◌∙◌, ℕ, zero, suc, ◌^◌, ◌<◌, ◌≤◌, refl, sym, ap, subst, arith, false, List, [], ◌∷◌, length, get_or, ℤ, pos, negsuc, neg_ℤ, unsigned_abs, Some}
use Rattle.std.specs.Prelude.{◌==◌}
use Rattle.std.specs.Option.{option_map}
use Rattle.std.specs.Fmt.{signed_decimal}
use Rattle.std.proofs.lemmas.Bool.Decides.{nat_tests}
use Rattle.qap_io.specs.Digits.{BeginsWithDigits, unsigned_number_of}
use Rattle.qap_io.proofs.Runs.{unsigned_number_of-digits}
use Rattle.qap_lines.specs.Number.{IsDecimal, IsNumber}
use Rattle.qap_lines.proofs.Words.{IsNumber-signed_decimal}
use Rattle.qap_text.specs.Number.{number_of}
use Rattle.qap_text.specs.Word.{is_separator}

-- the word of a number: it has no separator
pub record IsWordOf (word : List ℕ) (z : ℤ) : Type 0 where
  pub nonempty : 0 < length word
  pub letters : (k : ℕ) → k < length word → is_separator (get_or word k 0) ≡ false
  pub spells : number_of word ≡ Some z

no_separator : (b : ℕ) → 45 ≤ b → is_separator b ≡ false
no_separator b h = grind (arith, nat_tests)

decimal_number : (word : List ℕ) (n : ℕ) → IsDecimal word n → unsigned_number_of word ≡ Some n
decimal_number word n a =
    let digits : BeginsWithDigits word (length word) = record { in_text = omega arith; each = a.digits } in
    unsigned_number_of-digits word a.nonempty digits ∙ ap Some a.value

unsigned_word : (word : List ℕ) (n : ℕ) → IsDecimal word n → number_of word ≡ Some (pos n)
unsigned_word [] n a = absurd (let h = a.nonempty in omega arith)
unsigned_word (b ∷ bs) n a =
    let first : (48 ≤ b) × (b ≤ 57) = a.digits 0 (omega arith) in
    let plus : (b == 43) ≡ false = grind (arith, nat_tests) in
    let minus : (b == 45) ≡ false = grind (arith, nat_tests) in
    rw (plus, minus) (ap (option_map pos) (decimal_number (b ∷ bs) n a))

word_of : (word : List ℕ) (z : ℤ) → IsNumber word z → IsWordOf word z
word_of word (pos n) a = record {
  nonempty = a.nonempty;
  letters = λ k below. let d = a.digits k below in no_separator (get_or word k 0) (omega arith);
  spells = unsigned_word word n a;
}
word_of word (negsuc n) a = subst (λ (w : List ℕ). IsWordOf w (negsuc n)) (sym a.1) (record {
  nonempty = omega arith;
  letters = minus_letters a.0 (suc n) a.2;
  spells = ap (option_map (λ m. neg_ℤ (pos m))) (decimal_number a.0 (suc n) a.2);
})
  where
    minus_letters : (digits : List ℕ) (m : ℕ) → IsDecimal digits m → (k : ℕ) → k < length (45 ∷ digits) → is_separator (get_or (45 ∷ digits) k 0) ≡ false
    minus_letters digits m d zero below = refl
    minus_letters digits m d (suc k) below = let e = d.digits k (omega arith) in no_separator (get_or digits k 0) (omega arith)

-- a number from -10^24 to 10^24 in decimal is a word of it
pub written : (z : ℤ) → unsigned_abs z ≤ 10 ^ 24 → IsWordOf (signed_decimal z) z
written z small = word_of (signed_decimal z) z (IsNumber-signed_decimal z small)
