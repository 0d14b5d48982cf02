-- Texts that grow at their end.
use Rattle.std.proofs.Common.{◌≡◌, ℕ, List, [], ◌∷◌, ◌++◌, ℤ, sym, ap, ◌∙◌, append_assoc, append-nil}
use Rattle.std.specs.Prelude.{Option, Some, None}
use Rattle.std.specs.Fmt.{signed_decimal}
use Rattle.std.proofs.lemmas.Option.{none-some}
use Rattle.tuple_match.specs.FieldValue.{FieldValue, number, numbers, numbers_of, word}
use Rattle.space_script.specs.Reply.{behind_commas, field_text, fields_text}

behind_commas-push : (zs : List ℤ) (z : ℤ) → behind_commas (zs ++ z ∷ []) ≡ behind_commas zs ++ 44 ∷ signed_decimal z
behind_commas-push [] z = ap (λ l. 44 ∷ l) (append-nil (signed_decimal z))
behind_commas-push (y ∷ zs) z =
    ap (λ l. 44 ∷ signed_decimal y ++ l) (behind_commas-push zs z)
    ∙ ap (λ l. 44 ∷ l) (sym (append_assoc (signed_decimal y) (behind_commas zs) (44 ∷ signed_decimal z)))

fields_text-push : (fields : List FieldValue) (field : FieldValue) → fields_text (fields ++ field ∷ []) ≡ fields_text fields ++ 32 ∷ field_text field
fields_text-push [] field = ap (λ l. 32 ∷ l) (append-nil (field_text field))
fields_text-push (f ∷ fields) field =
    ap (λ l. 32 ∷ field_text f ++ l) (fields_text-push fields field)
    ∙ ap (λ l. 32 ∷ l) (sym (append_assoc (field_text f) (fields_text fields) (32 ∷ field_text field)))

-- one more number behind a comma
pub number_pushed : (start before after : List ℕ) (zs : List ℤ) (z : ℤ) → before ≡ start ++ behind_commas zs → after ≡ before ++ 44 ∷ signed_decimal z
    → after ≡ start ++ behind_commas (zs ++ z ∷ [])
number_pushed start before after zs z is pushed =
    pushed ∙ ap (λ l. l ++ 44 ∷ signed_decimal z) is ∙ append_assoc start (behind_commas zs) (44 ∷ signed_decimal z)
    ∙ ap (λ l. start ++ l) (sym (behind_commas-push zs z))

-- one more field behind a space
pub field_pushed : (start before after : List ℕ) (fields : List FieldValue) (field : FieldValue) → before ≡ start ++ fields_text fields
    → after ≡ before ++ 32 ∷ field_text field → after ≡ start ++ fields_text (fields ++ field ∷ [])
field_pushed start before after fields field is pushed =
    pushed ∙ ap (λ l. l ++ 32 ∷ field_text field) is ∙ append_assoc start (fields_text fields) (32 ∷ field_text field)
    ∙ ap (λ l. start ++ l) (sym (fields_text-push fields field))

abbrev list_in : Option (List ℤ) → List ℤ
list_in (Some ns) = ns
list_in None = []

-- the list that a field's numbers are, where it has some
pub numbers_from : (field : FieldValue) (ns : List ℤ) → Some ns ≡ numbers_of field → field ≡ numbers ns
numbers_from (number m) ns e = absurd (none-some ns (sym e))
numbers_from (word s) ns e = absurd (none-some ns (sym e))
numbers_from (numbers ms) ns e = ap numbers (sym (ap (λ (o : Option (List ℤ)). list_in o) e))

-- a list has numbers
pub no_numbers : (field : FieldValue) (ns : List ℤ) → None ≡ numbers_of field → field ≡ numbers ns → ⊥
no_numbers field ns none is = none-some ns (none ∙ ap numbers_of is)
