-- Digits at the front of a text, one after another.
use Rattle.std.proofs.Common.{◌≡◌, ℕ, zero, suc, ◌+◌, ◌-◌, ◌*◌, ◌^◌, ◌<◌, ◌≤◌, true, List, [], ◌∷◌, length, map, take, get_or, Some, None, sym, subst, ap, ◌∙◌, inl, inr, add-one, arith}
use Rattle.std.specs.Prelude.{if◌then◌else◌, min}
use Rattle.std.specs.Option.{option_map}
use Rattle.std.specs.Cmp.Derive.{both_true}
use Rattle.std.specs.Int.Digits.{number_from_digits}
use Rattle.std.proofs.lemmas.Bool.{cases_lt, le-leb}
use Rattle.std.proofs.lemmas.List.{map_more, take_all, get_or_default}
use Rattle.std.proofs.lemmas.List.Sums.{list_all-from_AllPass}
use Rattle.std.proofs.lemmas.Int.Digits.{number_push}
use Rattle.std.proofs.Math.Nat.{pow-le-pow_right, pow-suc}
use Rattle.qap_io.specs.Digits.{is_digit, magnitude_of, unsigned_number_of, BeginsWithDigits, IsRun}

-- one digit more
pub BeginsWithDigits-more : (text : List ℕ) (count : ℕ) → BeginsWithDigits text count → count < length text → 48 ≤ get_or text count 0 → get_or text count 0 ≤ 57 → BeginsWithDigits text (count + 1)
BeginsWithDigits-more text count h inside low high = record {
  in_text = omega arith;
  each = λ i below.
      elim (cases_lt i count) [
        | inl before ↦ h.each i before
        | inr past ↦
            let here : count ≡ i = omega arith in
            subst (λ (k : ℕ). (48 ≤ get_or text k 0) × (get_or text k 0 ≤ 57)) here (low, high)
      ];
}

-- with one digit more, digits stand for ten times as much, and for what that digit does
pub magnitude_of-more : (text : List ℕ) (i : ℕ) → i < length text → magnitude_of (take (i + 1) text) ≡ magnitude_of (take i text) * 10 + (get_or text i 0 - 48)
magnitude_of-more text i h =
    ap (number_from_digits 10) (map_more (λ b. b - 48) text i 0 h) ∙ number_push 10 (map (λ b. b - 48) (take i text)) (get_or text i 0 - 48)

-- i digits stand for less than 10^i
pub magnitude_of-lt : (text : List ℕ) (i : ℕ) → BeginsWithDigits text i → magnitude_of (take i text) < 10 ^ i
magnitude_of-lt text zero h = omega arith
magnitude_of-lt text (suc i) h =
    let inside : suc i ≤ length text = h.in_text in
    let front : magnitude_of (take i text) < 10 ^ i = magnitude_of-lt text i (record { in_text = omega arith; each = λ k below. h.each k (omega arith) }) in
    let digit : get_or text i 0 ≤ 57 = (h.each i (omega arith)).1 in
    let more : magnitude_of (take (suc i) text) ≡ magnitude_of (take i text) * 10 + (get_or text i 0 - 48) =
    ap (λ k. magnitude_of (take k text)) (sym (add-one i)) ∙ magnitude_of-more text i (omega arith) in
    let power : 10 ^ suc i ≡ 10 ^ i * 10 = pow-suc 10 i in
    omega arith

-- digits of which there are less than 18 stand for less than 10^17
pub magnitude_of-lt_few : (text : List ℕ) (i : ℕ) → BeginsWithDigits text i → i < 18 → magnitude_of (take i text) < 10 ^ 17
magnitude_of-lt_few text i h few =
    let less : magnitude_of (take i text) < 10 ^ i = magnitude_of-lt text i h in
    let most : 10 ^ i ≤ 10 ^ 17 = pow-le-pow_right {n = 10} (omega arith) {i = i} {j = 17} (omega arith) in
    omega arith

digit_test : (b : ℕ) → 48 ≤ b → b ≤ 57 → is_digit b ≡ true
digit_test b low high = both_true (le-leb 48 b low) (le-leb b 57 high)

-- a text of digits alone spells what they stand for
pub unsigned_number_of-digits : (text : List ℕ) → 0 < length text → BeginsWithDigits text (length text) → unsigned_number_of text ≡ Some (magnitude_of text)
unsigned_number_of-digits [] some h = absurd (omega arith)
unsigned_number_of-digits (b ∷ bs) some h =
    let text = b ∷ bs in
    ap (λ t. if t then Some (magnitude_of text) else None) (list_all-from_AllPass is_digit text (λ i d below.
    let digit = h.each i below in
    ap is_digit (get_or_default text i d 0 below) ∙ digit_test (get_or text i 0) digit.0 digit.1))

-- a run that is the whole text
pub all_digits-run : (text : List ℕ) (bound count magnitude : ℕ) → IsRun text bound count magnitude → 0 < count → count ≡ length text → Some magnitude ≡ option_map (λ n. min n bound) (unsigned_number_of text)
all_digits-run text bound count magnitude run some whole =
    let digits : BeginsWithDigits text (length text) = subst (BeginsWithDigits text) whole run.digits in
    let all : take count text ≡ text = take_all count text (omega arith) in
    let is : magnitude ≡ min (magnitude_of text) bound = run.value ∙ ap (λ l. min (magnitude_of l) bound) all in
    ap Some is ∙ sym (ap (option_map (λ n. min n bound)) (unsigned_number_of-digits text (omega arith) digits))
