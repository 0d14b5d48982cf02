-- Digits at the front of a text, one after another.
use Rattle.std.proofs.Common.{◌≡◌, ℕ, ◌+◌, ◌-◌, ◌^◌, ◌<◌, ◌≤◌, List, length, take, drop, get_or, refl, sym, subst, ap, ◌∙◌, inl, inr, arith, length-append}
use Rattle.std.proofs.lemmas.Bool.{cases_order}
use Rattle.std.proofs.lemmas.List.{length-take-le, take-append-drop, get_or-take, get_or-drop, get_or_append_left, get_or-append_right}
use Rattle.qap_lines.specs.Number.{IsDecimal}
use Rattle.qap_io.specs.Digits.{magnitude_of, IsNoDigit, BeginsWithDigits, IsRun}
use Rattle.qap_lines.specs.Numeral.{IsFront, IsFrontDecimal}

-- the digits at the front of a text end in one place
same_runs : (text : List ℕ) (i j : ℕ) → BeginsWithDigits text i → IsNoDigit (get_or text i 0) → BeginsWithDigits text j → IsNoDigit (get_or text j 0) → i ≡ j
same_runs text i j a ends b stops =
    elim (cases_order i j) [
      | inl same ↦ same
      | inr (inl less) ↦ absurd (no_digit (get_or text i 0) ends (b.each i less))
      | inr (inr more) ↦ absurd (no_digit (get_or text j 0) stops (a.each j more))
    ]
  where
    no_digit : (b : ℕ) → IsNoDigit b → (48 ≤ b) × (b ≤ 57) → ⊥
    no_digit b (inl low) digit = omega arith
    no_digit b (inr high) digit = omega arith

front_digits : (text word : List ℕ) (n : ℕ) → IsFront text word → IsDecimal word n → BeginsWithDigits text (length word)
front_digits text word n front decimal = record {
  in_text = omega (arith, ap length front.is, length-append word front.rest);
  each = λ i below.
      let same : get_or word i 0 ≡ get_or text i 0 = sym (ap (λ l. get_or l i 0) front.is ∙ get_or_append_left word front.rest 0 i below) in
      subst (λ (b : ℕ). (48 ≤ b) × (b ≤ 57)) same (decimal.digits i below);
}

front_ends : (text word : List ℕ) → IsFront text word → IsNoDigit (get_or text (length word) 0)
front_ends text word front =
    let here : length word - length word ≡ 0 = omega arith in
    let same : get_or front.rest 0 0 ≡ get_or text (length word) 0 =
    sym (ap (λ l. get_or l (length word) 0) front.is ∙ get_or-append_right word front.rest (length word) (length word) 0 refl (omega arith) ∙ ap (λ i. get_or front.rest i 0) here) in
    subst IsNoDigit same front.ends

-- the bytes before one that is no digit are a word at the front of the text
pub IsFront-take : (text : List ℕ) (count : ℕ) → IsNoDigit (get_or text count 0) → IsFront text (take count text)
IsFront-take text count ends = let start : count + 0 ≡ count = omega arith in record {
  rest = drop count text;
  is = sym (take-append-drop count text);
  ends = subst IsNoDigit (sym (get_or-drop count text 0 0 ∙ ap (λ i. get_or text i 0) start)) ends;
}

-- all digits at the front, if there is one, and a zero before no other, are a number
pub IsFrontDecimal-from_run : (text : List ℕ) (count magnitude : ℕ) → IsRun text (10 ^ 25) count magnitude → 0 < count → (get_or text 0 0 ≡ 48 → count ≡ 1) → IsFrontDecimal text count magnitude
IsFrontDecimal-from_run text count magnitude run some leading =
    let long : length (take count text) ≡ count = length-take-le count text run.digits.in_text in
    record {
      in_text = run.digits.in_text;
      front = IsFront-take text count run.longest;
      number = magnitude_of (take count text);
      spelled = record {
        nonempty = omega arith;
        digits = λ i below.
            let inside : i < count = omega arith in
            subst (λ (b : ℕ). (48 ≤ b) × (b ≤ 57)) (sym (get_or-take count text i 0 inside)) (run.digits.each i inside);
        value = refl;
        leading = λ e. long ∙ leading (sym (get_or-take count text 0 0 some) ∙ e);
      };
      value = run.value;
    }

-- the digits of a number at the front are all digits there
pub run_from_decimal : (text word : List ℕ) (count magnitude n : ℕ) → IsRun text (10 ^ 25) count magnitude → IsFront text word → IsDecimal word n → (0 < count) × (get_or text 0 0 ≡ 48 → count ≡ 1)
run_from_decimal text word count magnitude n run front decimal =
    let same : length word ≡ count =
    same_runs text (length word) count (front_digits text word n front decimal) (front_ends text word front) run.digits run.longest in
    let first : get_or text 0 0 ≡ get_or word 0 0 = ap (λ l. get_or l 0 0) front.is ∙ get_or_append_left word front.rest 0 0 decimal.nonempty in
    (omega (arith, decimal.nonempty), λ e. sym same ∙ decimal.leading (sym first ∙ e))
