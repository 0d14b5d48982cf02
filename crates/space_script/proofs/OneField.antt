-- A word spells one number, one field and one pattern at most.
use Rattle.std.proofs.Common.{◌≡◌, ℕ, ◌<◌, ◌≤◌, true, List, [], ◌∷◌, length, drop, ℤ, pos, neg_ℤ, ◌⊎◌, inl, inr, refl, sym, ap, ap₂, subst, ◌∙◌, arith, slice_index}
use Rattle.std.specs.Char.{is_ascii_digit}
use Rattle.std.specs.List.{AllZip, list_all, slice_split}
use Rattle.std.specs.Str.Parse.{digits_value}
use Rattle.std.proofs.lemmas.List.{append_cancel_right}
use Rattle.tuple_match.specs.FieldValue.{FieldValue, number, word, numbers}
use Rattle.tuple_match.specs.PatternValue.{PatternValue, actual, any_number, any_word, any_numbers}
use Rattle.tuple_match.specs.Word.{IsWord}
use Rattle.space_script.specs.Number.{IsInteger}
use Rattle.tuple_match.specs.Template.{IsTemplate}
use Rattle.tuple_match.specs.Tuple.{IsTuple}
use Rattle.space_script.specs.Field.{AreTupleWords, AreTemplateWords, AreNumbers, IsListWord, IsFieldWord, IsFormal, IsPatternWord, is_comma}
use Rattle.space_script.proofs.Numerals.{first_digit}

-- lists that belong to one list are one, where each item has one fellow
pub one_zip : {A B : Type 0} (R : A → B → Type 0) → ((x : A) (y z : B) → R x y → R x z → y ≡ z)
    → (xs : List A) (ys zs : List B) → AllZip R xs ys → AllZip R xs zs → ys ≡ zs
one_zip R one [] [] [] left right = refl
one_zip R one [] [] (z ∷ zs) left right = absurd right
one_zip R one [] (y ∷ ys) zs left right = absurd left
one_zip R one (x ∷ xs) [] zs left right = absurd left
one_zip R one (x ∷ xs) (y ∷ ys) [] left right = absurd right
one_zip R one (x ∷ xs) (y ∷ ys) (z ∷ zs) left right = ap₂ (λ a rest. a ∷ rest) (one x y z left.0 right.0) (one_zip R one xs ys zs left.1 right.1)

-- the first byte of a number's word
IntegerStart : ℕ → Type 0
IntegerStart b = (b ≡ 45) ⊎ ((48 ≤ b) × (b ≤ 57))

integer_start : (text : List ℕ) (z : ℤ) → IsInteger text z → IntegerStart (slice_index text 0)
unfolding IntegerStart
integer_start text z (inl plain) = inr (first_digit text plain.numeral.some plain.numeral.digits)
integer_start text z (inr negated) = inl (ap (λ l. slice_index l 0) negated.is)

word_start : (text : List ℕ) → IsWord text → 97 ≤ slice_index text 0
word_start [] letter = absurd letter
word_start (b ∷ bs) letter = letter.0.0

list_start : (text : List ℕ) (zs : List ℤ) → IsListWord text zs → slice_index text 0 ≡ 91
list_start text zs listed = ap (λ l. slice_index l 0) listed.is

integer_no_word : (text : List ℕ) (z : ℤ) → IsInteger text z → IsWord text → ⊥
unfolding IntegerStart
integer_no_word text z integer letters = elim (integer_start text z integer) [
  | inl minus ↦ omega (arith, minus, word_start text letters)
  | inr digit ↦ omega (arith, digit.1, word_start text letters)
]

integer_no_list : (text : List ℕ) (z : ℤ) (zs : List ℤ) → IsInteger text z → IsListWord text zs → ⊥
unfolding IntegerStart
integer_no_list text z zs integer listed = elim (integer_start text z integer) [
  | inl minus ↦ omega (arith, minus, list_start text zs listed)
  | inr digit ↦ omega (arith, digit.1, list_start text zs listed)
]

word_no_list : (text : List ℕ) (zs : List ℤ) → IsWord text → IsListWord text zs → ⊥
word_no_list text zs letters listed = omega (arith, word_start text letters, list_start text zs listed)

digits_no_minus : (text digits : List ℕ) → 0 < length text → list_all is_ascii_digit text ≡ true → text ≡ 45 ∷ digits → ⊥
digits_no_minus text digits some all is = omega (arith, (first_digit text some all).0, ap (λ l. slice_index l 0) is)

-- a text spells one integer at most
pub one_integer : (text : List ℕ) (y z : ℤ) → IsInteger text y → IsInteger text z → y ≡ z
one_integer text y z (inl left) (inl right) =
    left.value ∙ ap pos (sym left.numeral.value ∙ right.numeral.value) ∙ sym right.value
one_integer text y z (inl left) (inr right) = absurd (digits_no_minus text right.digits left.numeral.some left.numeral.digits right.is)
one_integer text y z (inr left) (inl right) = absurd (digits_no_minus text left.digits right.numeral.some right.numeral.digits left.is)
one_integer text y z (inr left) (inr right) =
    left.value
    ∙ ap (λ n. neg_ℤ (pos n)) (sym left.numeral.value ∙ ap (λ l. digits_value 10 (drop 1 l)) (sym left.is ∙ right.is) ∙ right.numeral.value)
    ∙ sym right.value

one_numbers : (text : List ℕ) (ys zs : List ℤ) → AreNumbers text ys → AreNumbers text zs → ys ≡ zs
one_numbers [] ys zs left right = left ∙ sym right
one_numbers (b ∷ bs) ys zs left right = one_zip IsInteger one_integer (slice_split is_comma (b ∷ bs)) ys zs left right

one_list : (text : List ℕ) (ys zs : List ℤ) → IsListWord text ys → IsListWord text zs → ys ≡ zs
one_list text ys zs left right =
    let same = append_cancel_right left.inner right.inner (93 ∷ []) (ap (drop 1) (sym left.is ∙ right.is)) in
    one_numbers right.inner ys zs (subst (λ inner. AreNumbers inner ys) same left.numbers) right.numbers

-- a word spells one field at most
pub one_field : (text : List ℕ) (x y : FieldValue) → IsFieldWord text x → IsFieldWord text y → x ≡ y
one_field text (number y) (number z) left right = ap number (one_integer text y z left right)
one_field text (number y) (word bytes) left right = absurd (integer_no_word text y left (subst IsWord (sym right.0) right.1))
one_field text (number y) (numbers zs) left right = absurd (integer_no_list text y zs left right)
one_field text (word bytes) (number z) left right = absurd (integer_no_word text z right (subst IsWord (sym left.0) left.1))
one_field text (word bytes) (word others) left right = ap word (sym left.0 ∙ right.0)
one_field text (word bytes) (numbers zs) left right = absurd (word_no_list text zs (subst IsWord (sym left.0) left.1) right)
one_field text (numbers ys) (number z) left right = absurd (integer_no_list text z ys right left)
one_field text (numbers ys) (word bytes) left right = absurd (word_no_list text ys (subst IsWord (sym right.0) right.1) left)
one_field text (numbers ys) (numbers zs) left right = ap numbers (one_list text ys zs left right)

formal_start : (text : List ℕ) (p : PatternValue) → IsFormal text p → slice_index text 0 ≡ 63
formal_start text (actual field) formal = absurd formal
formal_start text any_number formal = ap (λ l. slice_index l 0) formal
formal_start text any_word formal = ap (λ l. slice_index l 0) formal
formal_start text any_numbers formal = ap (λ l. slice_index l 0) formal

field_no_formal : (text : List ℕ) (x : FieldValue) (p : PatternValue) → IsFieldWord text x → IsFormal text p → ⊥
unfolding IntegerStart
field_no_formal text (number z) p spelled formal = elim (integer_start text z spelled) [
  | inl minus ↦ omega (arith, minus, formal_start text p formal)
  | inr digit ↦ omega (arith, digit.1, formal_start text p formal)
]
field_no_formal text (word bytes) p spelled formal = omega (arith, word_start text (subst IsWord (sym spelled.0) spelled.1), formal_start text p formal)
field_no_formal text (numbers zs) p spelled formal = omega (arith, list_start text zs spelled, formal_start text p formal)

-- the second letter of a formal tells its type
letter_of : PatternValue → ℕ
letter_of (actual field) = 0
letter_of any_number = 105
letter_of any_word = 119
letter_of any_numbers = 108

formal_letter : (text : List ℕ) (p : PatternValue) → IsFormal text p → slice_index text 1 ≡ letter_of p
unfolding letter_of
formal_letter text (actual field) formal = absurd formal
formal_letter text any_number formal = ap (λ l. slice_index l 1) formal
formal_letter text any_word formal = ap (λ l. slice_index l 1) formal
formal_letter text any_numbers formal = ap (λ l. slice_index l 1) formal

one_formal : (text : List ℕ) (p q : PatternValue) → IsFormal text p → IsFormal text q → letter_of p ≡ letter_of q → p ≡ q
unfolding letter_of
one_formal text (actual field) q left right letter = absurd left
one_formal text p (actual field) left right letter = absurd right
one_formal text any_number any_number left right letter = refl
one_formal text any_number any_word left right letter = absurd (omega (arith, letter))
one_formal text any_number any_numbers left right letter = absurd (omega (arith, letter))
one_formal text any_word any_number left right letter = absurd (omega (arith, letter))
one_formal text any_word any_word left right letter = refl
one_formal text any_word any_numbers left right letter = absurd (omega (arith, letter))
one_formal text any_numbers any_number left right letter = absurd (omega (arith, letter))
one_formal text any_numbers any_word left right letter = absurd (omega (arith, letter))
one_formal text any_numbers any_numbers left right letter = refl

-- a pattern's word is a field's, of an actual, or a formal's
pattern_word : (text : List ℕ) (p : PatternValue) → IsPatternWord text p → ((x : FieldValue) × (p ≡ actual x) × IsFieldWord text x) ⊎ IsFormal text p
pattern_word text (actual x) spelled = inl (x, refl, spelled)
pattern_word text any_number spelled = inr spelled
pattern_word text any_word spelled = inr spelled
pattern_word text any_numbers spelled = inr spelled

-- a word spells one pattern at most
pub one_pattern : (text : List ℕ) (p q : PatternValue) → IsPatternWord text p → IsPatternWord text q → p ≡ q
one_pattern text p q left right = elim (pattern_word text p left) [
  | inl a ↦ elim (pattern_word text q right) [
    | inl b ↦ a.1 ∙ ap actual (one_field text a.0 b.0 a.2 b.2) ∙ sym b.1
    | inr formal ↦ absurd (field_no_formal text a.0 q a.2 formal)
  ]
  | inr formal ↦ elim (pattern_word text q right) [
    | inl b ↦ absurd (field_no_formal text b.0 p b.2 formal)
    | inr other ↦ one_formal text p q formal other (sym (formal_letter text p formal) ∙ formal_letter text q other)
  ]
]

-- words spell no tuple where the fields that they spell break its limits
pub no_tuple : (words : List (List ℕ)) (values : List FieldValue) → AllZip IsFieldWord words values → (IsTuple values → ⊥)
    → (fields : List FieldValue) → AreTupleWords words fields → ⊥
no_tuple words values spelled broken fields tuple =
    broken (subst IsTuple (one_zip IsFieldWord one_field words fields values tuple.each spelled) tuple.limits)

-- and likewise for templates
pub no_template : (words : List (List ℕ)) (values : List PatternValue) → AllZip IsPatternWord words values → (IsTemplate values → ⊥)
    → (patterns : List PatternValue) → AreTemplateWords words patterns → ⊥
no_template words values spelled broken patterns template =
    broken (subst IsTemplate (one_zip IsPatternWord one_pattern words patterns values template.each spelled) template.limits)

-- words spell one tuple at most
pub one_tuple : (words : List (List ℕ)) (x y : List FieldValue) → AreTupleWords words x → AreTupleWords words y → x ≡ y
one_tuple words x y left right = one_zip IsFieldWord one_field words x y left.each right.each

-- words spell one template at most
pub one_template : (words : List (List ℕ)) (x y : List PatternValue) → AreTemplateWords words x → AreTemplateWords words y → x ≡ y
one_template words x y left right = one_zip IsPatternWord one_pattern words x y left.each right.each
