-- Digits with a point among them, and the decimal number that they spell.
use Rattle.std.proofs.Common.{◌≡◌, ℕ, zero, suc, ◌+◌, ◌-◌, ◌*◌, ◌/◌, ◌%◌, ◌^◌, ◌<◌, ◌≤◌, Bool, true, false, List, [], ◌∷◌, ◌++◌, length, take, drop, replicate, Some, None, ℤ, pos, negsuc, neg_ℤ, unsigned_abs, refl, sym, ap, ap₂, subst, ◌∙◌, inl, inr, arith, append_assoc, length-append, length-drop}
use Rattle.std.specs.Prelude.{◌==◌, ◌&&◌, if◌then◌else◌, not, position}
use Rattle.std.specs.Fmt.{decimal}
use Rattle.std.specs.List.{list_all, position_or_len}
use Rattle.std.specs.Option.{option_map}
use Rattle.std.proofs.Math.Nat.{pow-suc}
use Rattle.std.proofs.Math.Seq.{take-append_seam, drop-append-add}
use Rattle.std.proofs.lemmas.Bool.{cases_Bool, eqb-true, leb-true, ne_eqb}
use Rattle.std.proofs.lemmas.Fmt.{decimal_by_steps_wide}
use Rattle.std.proofs.lemmas.List.{append-nil, take-append-drop}
use Rattle.std.proofs.lemmas.List.Folds.{list_all-append}
use Rattle.plan_table.specs.Decimal.{before_kept, are_digits, decimal_of, is_digit, is_point, magnitude_of, pointed, signed_of, unsigned, unsigned_at, unsigned_of, with_sign, without_zeros}
use Rattle.plan_table.specs.Spelling.{Spells, pointed_text, sign_text}
use Rattle.plan_table.proofs.Digits.{magnitude_of-push}
use Rattle.plan_table.proofs.LeastPlaces.{and_parts}
use Rattle.plan_table.proofs.Scaling.{neg_times}

abbrev AllDigits : List ℕ → Type 0
AllDigits digits = list_all is_digit digits ≡ true

both : (a b : Bool) → a ≡ true → b ≡ true → (a && b) ≡ true
both true b left right = right
both false b left right = left

AllDigits-append : (xs ys : List ℕ) → AllDigits xs → AllDigits ys → AllDigits (xs ++ ys)
AllDigits-append xs ys left right = list_all-append is_digit xs ys ∙ both (list_all is_digit xs) (list_all is_digit ys) left right

AllDigits-parts : (xs ys : List ℕ) → AllDigits (xs ++ ys) → AllDigits xs × AllDigits ys
AllDigits-parts xs ys all = and_parts (list_all is_digit xs) (list_all is_digit ys) (sym (list_all-append is_digit xs ys) ∙ all)

are_digits-some : (b : ℕ) (bs : List ℕ) → AllDigits (b ∷ bs) → are_digits (b ∷ bs) ≡ true
are_digits-some b bs all = ap (λ t. not t && list_all is_digit (b ∷ bs)) (ne_eqb (length (b ∷ bs)) 0 (omega arith)) ∙ all

-- a digit is no point and no sign
pub digit-range : (b : ℕ) → is_digit b ≡ true → (48 ≤ b) × (b ≤ 57)
digit-range b is =
    let parts = and_parts _ _ is in (leb-true 48 b parts.0, leb-true b 57 parts.1)

-- what follows digits has the first point
point_behind : (xs ys : List ℕ) → AllDigits xs → position_or_len is_point (xs ++ ys) ≡ length xs + position_or_len is_point ys
point_behind [] ys all = omega arith
point_behind (x ∷ xs) ys all =
    let parts = and_parts (is_digit x) (list_all is_digit xs) all in
    let range = digit-range x parts.0 in
    let other : (x == 46) ≡ false = ne_eqb x 46 (omega arith) in
    let behind = point_behind xs ys parts.1 in
    rw other (omega (arith, behind))

no_point : (xs : List ℕ) → AllDigits xs → position is_point xs ≡ None
no_point xs all =
    let at : position_or_len is_point xs ≡ length xs = sym (ap (position_or_len is_point) (append-nil xs)) ∙ point_behind xs [] all ∙ omega arith in
    grind (arith, at)

first_point : (xs ys : List ℕ) → AllDigits xs → position is_point (xs ++ 46 ∷ ys) ≡ Some (length xs)
first_point xs ys all =
    let at : position_or_len is_point (xs ++ 46 ∷ ys) ≡ length xs = point_behind xs (46 ∷ ys) all ∙ omega arith in
    let longer : length xs < length (xs ++ 46 ∷ ys) = omega (arith, length-append xs (46 ∷ ys)) in
    grind (arith, at, longer)

-- zeros at the end are cut once
before_kept-cut : (b : ℕ) (kept : List ℕ) → without_zeros kept ≡ kept → without_zeros (before_kept b kept) ≡ before_kept b kept
before_kept-cut b [] cut =
    elim (cases_Bool (b == 48)) [
      | inl zero_digit ↦ let none : before_kept b [] ≡ [] = ap (λ t. if t then [] else b ∷ []) zero_digit in ap without_zeros none ∙ sym none
      | inr other ↦ let one : before_kept b [] ≡ b ∷ [] = ap (λ t. if t then [] else b ∷ []) other in ap without_zeros one
    ]
before_kept-cut b (c ∷ cs) cut = ap (before_kept b) cut

-- where the zeros at the end are cut, there are none left to cut
pub without_zeros-cut : (xs : List ℕ) → without_zeros (without_zeros xs) ≡ without_zeros xs
without_zeros-cut [] = refl
without_zeros-cut (b ∷ bs) = before_kept-cut b (without_zeros bs) (without_zeros-cut bs)

before_kept-digits : (b : ℕ) (kept : List ℕ) → is_digit b ≡ true → AllDigits kept → AllDigits (before_kept b kept)
before_kept-digits b [] digit all =
    elim (cases_Bool (b == 48)) [
      | inl zero_digit ↦ ap (λ (t : Bool). list_all is_digit (if t then [] else b ∷ [])) zero_digit
      | inr other ↦ ap (λ (t : Bool). list_all is_digit (if t then [] else b ∷ [])) other ∙ both (is_digit b) true digit refl
    ]
before_kept-digits b (c ∷ cs) digit all = both (is_digit b) (list_all is_digit (c ∷ cs)) digit all

pub without_zeros-digits : (xs : List ℕ) → AllDigits xs → AllDigits (without_zeros xs)
without_zeros-digits [] all = refl
without_zeros-digits (b ∷ bs) all =
    let parts = and_parts (is_digit b) (list_all is_digit bs) all in
    before_kept-digits b (without_zeros bs) parts.0 (without_zeros-digits bs parts.1)

-- what zeros at the end are worth
times_ten : (a b k l : ℕ) → a * 10 ^ k ≡ b * 10 ^ l → a * 10 ^ suc k ≡ b * 10 ^ suc l
times_ten a b k l same = omega (arith, same, ap (λ x. a * x) (pow-suc 10 k), ap (λ x. b * x) (pow-suc 10 l))

kept_step : (b : ℕ) (bs kept front : List ℕ) → magnitude_of ((front ++ b ∷ []) ++ bs) * 10 ^ length kept ≡ magnitude_of ((front ++ b ∷ []) ++ kept) * 10 ^ length bs
    → magnitude_of (front ++ b ∷ bs) * 10 ^ length (before_kept b kept) ≡ magnitude_of (front ++ before_kept b kept) * 10 ^ suc (length bs)
kept_step b bs [] front so_far =
    let all = ap magnitude_of (append_assoc front (b ∷ []) bs) in
    let before = ap magnitude_of (append-nil (front ++ b ∷ [])) in
    let one_less : magnitude_of (front ++ b ∷ bs) ≡ magnitude_of (front ++ b ∷ []) * 10 ^ length bs = omega (arith, so_far, all, ap (λ x. x * 10 ^ length bs) before) in
    elim (cases_Bool (b == 48)) [
      | inl zero_digit ↦
          let none : before_kept b [] ≡ [] = ap (λ t. if t then [] else b ∷ []) zero_digit in
          let is : b ≡ 48 = eqb-true b 48 zero_digit in
          let pushed : magnitude_of (front ++ b ∷ []) ≡ magnitude_of front * 10 = omega (arith, magnitude_of-push front b) in
          let value : magnitude_of (front ++ b ∷ bs) * 10 ^ 0 ≡ magnitude_of (front ++ []) * 10 ^ suc (length bs) =
          omega (arith, one_less, ap (λ x. x * 10 ^ length bs) pushed, ap (λ x. magnitude_of x * 10 ^ suc (length bs)) (append-nil front), ap (λ x. magnitude_of front * x) (pow-suc 10 (length bs))) in
          subst (λ (l : List ℕ). magnitude_of (front ++ b ∷ bs) * 10 ^ length l ≡ magnitude_of (front ++ l) * 10 ^ suc (length bs)) (sym none) value
      | inr other ↦
          let one : before_kept b [] ≡ b ∷ [] = ap (λ t. if t then [] else b ∷ []) other in
          let value : magnitude_of (front ++ b ∷ bs) * 10 ^ 1 ≡ magnitude_of (front ++ b ∷ []) * 10 ^ suc (length bs) =
          times_ten (magnitude_of (front ++ b ∷ bs)) (magnitude_of (front ++ b ∷ [])) 0 (length bs) (omega (arith, one_less)) in
          subst (λ (l : List ℕ). magnitude_of (front ++ b ∷ bs) * 10 ^ length l ≡ magnitude_of (front ++ l) * 10 ^ suc (length bs)) (sym one) value
    ]
kept_step b bs (c ∷ cs) front so_far =
    let left = ap magnitude_of (append_assoc front (b ∷ []) bs) in
    let right = ap magnitude_of (append_assoc front (b ∷ []) (c ∷ cs)) in
    times_ten (magnitude_of (front ++ b ∷ bs)) (magnitude_of (front ++ b ∷ c ∷ cs)) (length (c ∷ cs)) (length bs)
    (ap (λ x. x * 10 ^ length (c ∷ cs)) (sym left) ∙ so_far ∙ ap (λ x. x * 10 ^ length bs) right)

kept_value : (xs front : List ℕ) → magnitude_of (front ++ xs) * 10 ^ length (without_zeros xs) ≡ magnitude_of (front ++ without_zeros xs) * 10 ^ length xs
kept_value [] front = refl
kept_value (b ∷ bs) front = kept_step b bs (without_zeros bs) front (kept_value bs (front ++ b ∷ []))

-- digits with a point behind some of them are read as what they were made of
reads_whole : (whole : List ℕ) → are_digits whole ≡ true → AllDigits whole → unsigned_of whole ≡ Some (unsigned whole [])
reads_whole digits some all =
    ap (unsigned_at digits) (no_point digits all) ∙ ap (λ t. if t then Some (unsigned digits []) else None) some

reads_pointed : (whole kept : List ℕ) → are_digits whole ≡ true → AllDigits whole → are_digits kept ≡ true → without_zeros kept ≡ kept
    → unsigned_of (whole ++ 46 ∷ kept) ≡ Some (unsigned whole kept)
reads_pointed front kept some all some_behind cut =
    let text = front ++ 46 ∷ kept in
    let before : take (length front) text ≡ front = take-append_seam front (46 ∷ kept) in
    let behind : drop (length front + 1) text ≡ kept = drop-append-add front (46 ∷ kept) 1 in
    ap (unsigned_at text) (first_point front kept all)
    ∙ ap₂ pointed before behind
    ∙ ap₂ (λ s t. if s && t then Some (unsigned front (without_zeros kept)) else None) some some_behind
    ∙ ap (λ l. Some (unsigned front l)) cut

reads : (whole kept : List ℕ) → are_digits whole ≡ true → AllDigits whole → AllDigits kept → without_zeros kept ≡ kept
    → unsigned_of (pointed_text whole kept) ≡ Some (unsigned whole kept)
reads front [] some all digits cut = reads_whole front some all
reads front (b ∷ bs) some all digits cut = reads_pointed front (b ∷ bs) some all (are_digits-some b bs digits) cut

-- a digit in front is no sign
unsigned_front : (b : ℕ) (bs : List ℕ) → is_digit b ≡ true → decimal_of (b ∷ bs) ≡ signed_of false (b ∷ bs)
unsigned_front b bs digit =
    let range = digit-range b digit in
    let no_plus : (b == 43) ≡ false = ne_eqb b 43 (omega arith) in
    let no_minus : (b == 45) ≡ false = ne_eqb b 45 (omega arith) in
    rw (no_plus, no_minus)

pointed_front : (whole kept : List ℕ) → AllDigits whole → 0 < length whole → decimal_of (pointed_text whole kept) ≡ signed_of false (pointed_text whole kept)
pointed_front [] kept all some = absurd (omega arith)
pointed_front (b ∷ bs) [] all some = unsigned_front b bs (and_parts (is_digit b) (list_all is_digit bs) all).0
pointed_front (b ∷ bs) (k ∷ ks) all some = unsigned_front b (bs ++ 46 ∷ k ∷ ks) (and_parts (is_digit b) (list_all is_digit bs) all).0

some_digits : (whole : List ℕ) → AllDigits whole → 0 < length whole → are_digits whole ≡ true
some_digits [] all some = absurd (omega arith)
some_digits (b ∷ bs) all some = are_digits-some b bs all

-- a sign, digits and a point among them spell the number that all digits make, over the power of ten for those behind the point
spells_parts : (number : ℤ) (places : ℕ) (whole fraction : List ℕ) → AllDigits whole → AllDigits fraction → 0 < length whole → length fraction ≡ places
    → magnitude_of (whole ++ fraction) ≡ unsigned_abs number → Spells (sign_text number ++ pointed_text whole (without_zeros fraction)) number places
spells_parts (pos n) places front fraction all digits some count value =
    let kept = without_zeros fraction in
    let read = reads front kept (some_digits front all some) all (without_zeros-digits fraction digits) (without_zeros-cut fraction) in
    let worth = ap (λ x. x * 10 ^ length kept) (sym value) ∙ kept_value fraction front ∙ ap (λ k. magnitude_of (front ++ kept) * 10 ^ k) count in
    record {
      decimal = with_sign false (unsigned front kept);
      spelled = pointed_front front kept all some ∙ ap (option_map (with_sign false)) read;
      same = ap pos (sym worth);
    }
spells_parts (negsuc n) places front fraction all digits some count value =
    let kept = without_zeros fraction in
    let read = reads front kept (some_digits front all some) all (without_zeros-digits fraction digits) (without_zeros-cut fraction) in
    let worth = ap (λ x. x * 10 ^ length kept) (sym value) ∙ kept_value fraction front ∙ ap (λ k. magnitude_of (front ++ kept) * 10 ^ k) count in
    record {
      decimal = with_sign true (unsigned front kept);
      spelled = ap (option_map (with_sign true)) read;
      same = neg_times (magnitude_of (front ++ kept)) (10 ^ places) ∙ ap (λ k. neg_ℤ (pos k)) (sym worth);
    }

-- digits parted before the last places
pub spells : (number : ℤ) (places : ℕ) (digits : List ℕ) → AllDigits digits → magnitude_of digits ≡ unsigned_abs number → places < length digits
    → Spells (sign_text number ++ pointed_text (take (length digits - places) digits) (without_zeros (drop (length digits - places) digits))) number places
spells number places digits all value more =
    let k = length digits - places in
    let parted = take-append-drop k digits in
    let parts = AllDigits-parts (take k digits) (drop k digits) (ap (list_all is_digit) parted ∙ all) in
    let behind : length (drop k digits) ≡ places = length-drop k digits ∙ omega arith in
    let before : 0 < length (take k digits) = omega (arith, length-append (take k digits) (drop k digits), ap (λ (l : List ℕ). length l) parted) in
    spells_parts number places (take k digits) (drop k digits) parts.0 parts.1 before behind (ap magnitude_of parted ∙ value)

-- the digits of a number, and zeros in front of them
abbrev pub IsWrittenAs : ℕ → List ℕ → Type 0
IsWrittenAs n digits = AllDigits digits × (magnitude_of digits ≡ n)

one_digit : (n : ℕ) → n < 10 → IsWrittenAs n ((48 + n) ∷ [])
one_digit n small = (grind arith, omega arith)

more_digits : (n : ℕ) (digits : List ℕ) → 10 ≤ n → IsWrittenAs (n / 10) digits → IsWrittenAs n (digits ++ ((48 + n % 10) ∷ []))
more_digits n digits large (all, value) = (
  AllDigits-append digits ((48 + n % 10) ∷ []) all (one_digit (n % 10) (omega arith)).0,
  magnitude_of-push digits (48 + n % 10) ∙ omega (arith, value),
)

-- the decimal text of a number below 10^64 is of digits that stand for it
pub decimal_written : (n : ℕ) → n < 10 ^ 64 → IsWrittenAs n (decimal n)
decimal_written n small = decimal_by_steps_wide IsWrittenAs one_digit more_digits n small

-- zeros in front of a number's digits leave what they stand for
pub zeros_in_front : (k n : ℕ) (digits : List ℕ) → IsWrittenAs n digits → IsWrittenAs n (replicate k 48 ++ digits)
zeros_in_front zero n digits written = written
zeros_in_front (suc k) n digits written = zeros_in_front k n digits written
