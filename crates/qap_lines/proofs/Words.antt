-- Words of numbers: each number has one, and each word one number.
use Rattle.std.proofs.Common.{◌≡◌, ◌≢◌, ℕ, zero, suc, ◌+◌, ◌-◌, ◌*◌, ◌/◌, ◌%◌, ◌^◌, ◌<◌, ◌≤◌, List, [], ◌∷◌, ◌++◌, length, map, take, drop, get_or, ℤ, pos, negsuc, unsigned_abs, refl, sym, ap, ap₂, subst, ◌∙◌, inl, inr, arith, length-append}
use Rattle.std.specs.Fmt.{decimal, signed_decimal}
use Rattle.std.specs.Int.Digits.{number_from_digits, number_from_digits_after}
use Rattle.std.proofs.lemmas.Bool.{cases_lt, cases_order}
use Rattle.std.proofs.lemmas.Fmt.{decimal_by_steps_wide}
use Rattle.std.proofs.lemmas.Int.Digits.{number_push, number_after_ge}
use Rattle.std.proofs.lemmas.List.{get_or_at, get_or_append_left, get_or-append_right, get_or-take, map-append, length-take-le, take_more, take_all}
use Rattle.qap_lines.specs.Line.{HasNoLine}
use Rattle.qap_lines.specs.Number.{IsDecimal, IsNumber}
use Rattle.qap_io.specs.Digits.{IsNoDigit, magnitude_of}
use Rattle.qap_lines.proofs.Lines.{HasNoLine-cons, same_fronts}

-- digits with no digit behind them are no shorter than digits at the same front
no_longer_decimal : (word rest other more : List ℕ) (n : ℕ) → word ++ rest ≡ other ++ more → IsDecimal other n → IsNoDigit (get_or rest 0 0) → length word < length other → ⊥
no_longer_decimal word rest other more n is decimal ends shorter =
    let behind : get_or rest 0 0 ≡ get_or other (length word) 0 =
    sym (ap (λ i. get_or rest i 0) (sub_self (length word))) ∙ sym (get_or-append_right word rest (length word) (length word) 0 refl (omega arith)) ∙ ap (λ l. get_or l (length word) 0) is ∙ get_or_append_left other more 0 (length word) shorter in
    let digit = decimal.digits (length word) shorter in
    elim ends [
      | inl low ↦ omega arith
      | inr high ↦ omega arith
    ]
  where
    sub_self : (k : ℕ) → k - k ≡ 0
    sub_self k = omega arith

-- at one front there are the digits of one number
pub decimal_fronts : (word rest other more : List ℕ) (m n : ℕ) → word ++ rest ≡ other ++ more → IsDecimal word m → IsDecimal other n → IsNoDigit (get_or rest 0 0) → IsNoDigit (get_or more 0 0) → (word ≡ other) × (rest ≡ more)
decimal_fronts word rest other more m n is a b ends stops =
    let long : length word ≡ length other =
    elim (cases_order (length word) (length other)) [
      | inl same ↦ same
      | inr (inl shorter) ↦ absurd (no_longer_decimal word rest other more n is b ends shorter)
      | inr (inr longer) ↦ absurd (no_longer_decimal other more word rest m (sym is) a stops longer)
    ] in
    same_fronts word rest other more is long

-- digits don't begin with a minus sign
pub no_minus : (word rest more : List ℕ) (n : ℕ) → word ++ rest ≡ 45 ∷ more → IsDecimal word n → ⊥
no_minus word rest more n is a =
    let first : get_or word 0 0 ≡ 45 = sym (get_or_append_left word rest 0 0 a.nonempty) ∙ ap (λ l. get_or l 0 0) is in
    let digit = a.digits 0 a.nonempty in
    omega arith

-- at one front there is the word of one number
pub number_fronts : (word rest other more : List ℕ) (y z : ℤ) → word ++ rest ≡ other ++ more → IsNumber word y → IsNumber other z → IsNoDigit (get_or rest 0 0) → IsNoDigit (get_or more 0 0) → (word ≡ other) × (rest ≡ more)
number_fronts word rest other more (pos m) (pos n) is a b ends stops = decimal_fronts word rest other more m n is a b ends stops
number_fronts word rest other more (pos m) (negsuc n) is a b ends stops =
    absurd (no_minus word rest (b.0 ++ more) m (is ∙ ap (λ l. l ++ more) b.1) a)
number_fronts word rest other more (negsuc m) (pos n) is a b ends stops =
    absurd (no_minus other more (a.0 ++ rest) n (sym is ∙ ap (λ l. l ++ rest) a.1) b)
number_fronts word rest other more (negsuc m) (negsuc n) is a b ends stops =
    let digits : a.0 ++ rest ≡ b.0 ++ more = ap (drop 1) (sym (ap (λ l. l ++ rest) a.1) ∙ is ∙ ap (λ l. l ++ more) b.1) in
    let same = decimal_fronts a.0 rest b.0 more (suc m) (suc n) digits a.2 b.2 ends stops in
    (a.1 ∙ ap (λ l. 45 ∷ l) same.0 ∙ sym b.1, same.1)

-- a word stands for one number
pub IsNumber-unique : (word : List ℕ) (y z : ℤ) → IsNumber word y → IsNumber word z → y ≡ z
IsNumber-unique word (pos m) (pos n) a b = ap pos (sym a.value ∙ b.value)
IsNumber-unique word (pos m) (negsuc n) a b = absurd (no_minus word [] (b.0 ++ []) m (ap (λ l. l ++ []) b.1) a)
IsNumber-unique word (negsuc m) (pos n) a b = absurd (no_minus word [] (a.0 ++ []) n (ap (λ l. l ++ []) a.1) b)
IsNumber-unique word (negsuc m) (negsuc n) a b =
    let digits : a.0 ≡ b.0 = ap (drop 1) (sym a.1 ∙ b.1) in
    let same : suc m ≡ suc n = sym a.2.value ∙ ap magnitude_of digits ∙ b.2.value in
    ap negsuc (omega arith)

-- a word has no line feed
pub HasNoLine-decimal : (word : List ℕ) (n : ℕ) → IsDecimal word n → HasNoLine word
HasNoLine-decimal word n a = record { each = λ i below e. let digit = a.digits i below in absurd (omega arith) }

-- the word of a number has no line feed
pub HasNoLine-number : (word : List ℕ) (z : ℤ) → IsNumber word z → HasNoLine word
HasNoLine-number word (pos n) a = HasNoLine-decimal word n a
HasNoLine-number word (negsuc n) a =
    subst HasNoLine (sym a.1) (HasNoLine-cons 45 a.0 (λ e. absurd (omega arith)) (HasNoLine-decimal a.0 (suc n) a.2))

-- one digit
decimal_one : (n : ℕ) → n < 10 → IsDecimal ((48 + n) ∷ []) n
decimal_one n small = record {
  nonempty = omega arith;
  digits = digits;
  value = omega arith;
  leading = λ _. refl;
}
  where
    digits : (i : ℕ) → i < 1 → (48 ≤ get_or ((48 + n) ∷ []) i 0) × (get_or ((48 + n) ∷ []) i 0 ≤ 57)
    digits zero below = (omega arith, omega arith)
    digits (suc i) below = absurd (omega arith)

-- digits and one more
magnitude_of-push : (front : List ℕ) (digit : ℕ) → magnitude_of (front ++ digit ∷ []) ≡ magnitude_of front * 10 + (digit - 48)
magnitude_of-push front digit =
    ap (number_from_digits 10) (map-append (λ b. b - 48) front (digit ∷ [])) ∙ number_push 10 (map (λ b. b - 48) front) (digit - 48)

decimal_more : (n : ℕ) (front : List ℕ) → 10 ≤ n → IsDecimal front (n / 10) → IsDecimal (front ++ (48 + n % 10) ∷ []) n
decimal_more n front large a =
    let last = 48 + n % 10 in
    let whole = front ++ last ∷ [] in
    let long : length whole ≡ length front + 1 = length-append front (last ∷ []) in
    record {
      nonempty = omega (arith, a.nonempty);
      digits = λ i below.
          elim (cases_lt i (length front)) [
            | inl before ↦
                let same : get_or whole i 0 ≡ get_or front i 0 = get_or_append_left front (last ∷ []) 0 i before in
                let digit = a.digits i before in (omega arith, omega arith)
            | inr past ↦
                let here : length front ≡ i = omega arith in
                let same : get_or whole i 0 ≡ last = get_or_at front last [] 0 i here in (omega arith, omega arith)
          ];
      value =
          let made = magnitude_of-push front last in
          let value : magnitude_of front ≡ n / 10 = a.value in
          omega arith;
      leading = λ e.
          let first : get_or front 0 0 ≡ 48 = sym (get_or_append_left front (last ∷ []) 0 0 a.nonempty) ∙ e in
          let one : length front ≡ 1 = a.leading first in
          let none : n / 10 ≡ 0 = sym a.value ∙ zero_value front one first in
          absurd (omega arith);
    }
  where
    zero_value : (front : List ℕ) → length front ≡ 1 → get_or front 0 0 ≡ 48 → magnitude_of front ≡ 0
    zero_value [] long first = absurd (omega arith)
    zero_value (b ∷ []) long first = ap (λ d. magnitude_of (d ∷ [])) first
    zero_value (b ∷ c ∷ more) long first = absurd (omega arith)

-- the decimal digits of a number are its word
pub IsDecimal-decimal : (n : ℕ) → n < 10 ^ 64 → IsDecimal (decimal n) n
IsDecimal-decimal = decimal_by_steps_wide (λ n word. IsDecimal word n) decimal_one decimal_more

-- a number below 10 has one digit
decimal_word_one : (n : ℕ) → n < 10 → (word : List ℕ) → IsDecimal word n → word ≡ (48 + n) ∷ []
decimal_word_one n small [] a = absurd (omega (arith, a.nonempty))
decimal_word_one n small (b ∷ []) a =
    let digit = a.digits 0 (omega arith) in
    let value : 0 + (b - 48) ≡ n = a.value in
    ap (λ d. d ∷ []) (omega arith)
decimal_word_one n small (b ∷ c ∷ more) a =
    let digit = a.digits 0 (omega arith) in
    let not_zero : b ≢ 48 = λ e. absurd (omega (arith, a.leading e)) in
    let large = number_after_ge 10 ((0 + (b - 48)) * 10 + (c - 48)) (map (λ d. d - 48) more) (omega arith) in
    let value : number_from_digits_after 10 ((0 + (b - 48)) * 10 + (c - 48)) (map (λ d. d - 48) more) ≡ n = a.value in
    absurd (omega arith)

decimal_word_more : (n : ℕ) (front : List ℕ) → 10 ≤ n → ((word : List ℕ) → IsDecimal word (n / 10) → word ≡ front) → (word : List ℕ) → IsDecimal word n → word ≡ front ++ (48 + n % 10) ∷ []
decimal_word_more n front large same word a =
    let k = length word - 1 in
    let whole : k + 1 ≡ length word = omega (arith, a.nonempty) in
    let last = get_or word k 0 in
    let digit = a.digits k (omega arith) in
    let split : word ≡ take k word ++ last ∷ [] = sym (take_all (k + 1) word (omega arith)) ∙ take_more word k 0 (omega arith) in
    let value : magnitude_of (take k word) * 10 + (last - 48) ≡ n = sym (magnitude_of-push (take k word) last) ∙ sym (ap magnitude_of split) ∙ a.value in
    let some : 0 < k =
    elim (cases_lt 0 k) [
      | inl some ↦ some
      | inr none ↦
          let no_front : magnitude_of (take k word) ≡ 0 = ap (λ i. magnitude_of (take i word)) (zero_is k none) in absurd (omega arith)
    ] in
    let long : length (take k word) ≡ k = length-take-le k word (omega arith) in
    let of_front : IsDecimal (take k word) (n / 10) = record {
      nonempty = omega arith;
      digits = λ i below.
          let inside : i < k = omega arith in
          subst (λ (b : ℕ). (48 ≤ b) × (b ≤ 57)) (sym (get_or-take k word i 0 inside)) (a.digits i (omega arith));
      value = omega arith;
      leading = λ e. let one = a.leading (sym (get_or-take k word 0 0 some) ∙ e) in absurd (omega arith);
    } in
    let last_is : last ≡ 48 + n % 10 = omega arith in
    split ∙ ap₂ (λ f b. f ++ b ∷ []) (same (take k word) of_front) last_is
  where
    zero_is : (k : ℕ) → k ≤ 0 → k ≡ 0
    zero_is k none = omega arith

-- the word of a number is its decimal digits
pub decimal_word : (n : ℕ) → n < 10 ^ 64 → (word : List ℕ) → IsDecimal word n → word ≡ decimal n
decimal_word =
    decimal_by_steps_wide (λ n digits. (word : List ℕ) → IsDecimal word n → word ≡ digits) decimal_word_one decimal_word_more

-- a number from -10^24 to 10^24 in decimal is a word of it
pub IsNumber-signed_decimal : (z : ℤ) → unsigned_abs z ≤ 10 ^ 24 → IsNumber (signed_decimal z) z
IsNumber-signed_decimal (pos n) small = IsDecimal-decimal n (omega arith)
IsNumber-signed_decimal (negsuc n) small = (decimal (suc n), refl, IsDecimal-decimal (suc n) (omega arith))

-- such a number has no other word
pub number_word : (word : List ℕ) (z : ℤ) → IsNumber word z → unsigned_abs z ≤ 10 ^ 24 → word ≡ signed_decimal z
number_word word (pos n) a small = decimal_word n (omega arith) word a
number_word word (negsuc n) a small =
    a.1 ∙ ap (λ l. 45 ∷ l) (decimal_word (suc n) (omega arith) a.0 a.2)
