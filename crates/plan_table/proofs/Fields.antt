-- Fields of a record, one after another.
use Rattle.std.proofs.Common.{◌≡◌, ℕ, zero, suc, ◌+◌, ◌<◌, ◌≤◌, Bool, List, [], ◌∷◌, ◌++◌, length, take, get_or, Some, None, refl, ap, ◌∙◌, sym, inl, inr, arith}
use Rattle.std.specs.Prelude.{◌==◌, ◌↔◌, IsTrue}
use Rattle.std.proofs.lemmas.Bool.{cases_lt, eqb-true}
use Rattle.std.proofs.lemmas.List.{get_or_past, take_all, take_more}
use Rattle.csv.specs.Records.{field_at}
use Rattle.csv.proofs.RecordFacts.{field-get, field-none, field-there}

-- the number of a field that is there is less than the count of fields
pub field_inside : (fields : List (List ℕ)) (i : ℕ) (x : List ℕ) → field_at fields i ≡ Some x → i < length fields
field_inside fields i x is =
    elim (cases_lt i (length fields)) [
      | inl below ↦ below
      | inr past ↦ absurd (let none = sym (field-none fields i past) ∙ is in cc)
    ]

-- one field more
pub take_field : (fields : List (List ℕ)) (i : ℕ) (x : List ℕ) → field_at fields i ≡ Some x → take (i + 1) fields ≡ take i fields ++ x ∷ []
take_field fields i x is =
    take_more fields i [] (field_inside fields i x is) ∙ ap (λ y. take i fields ++ y ∷ []) (field-get fields i x is)

-- where there is no field, the record has ended
pub no_field : (fields : List (List ℕ)) (i : ℕ) → field_at fields i ≡ None → length fields ≤ i
no_field fields i none =
    elim (cases_lt i (length fields)) [
      | inl below ↦ absurd (field-there fields i below none)
      | inr past ↦ past
    ]

-- a record of three fields
pub three_fields : (fields : List (List ℕ)) (a b c : List ℕ) → length fields ≡ 3 → field_at fields 0 ≡ Some a → field_at fields 1 ≡ Some b → field_at fields 2 ≡ Some c → fields ≡ a ∷ b ∷ c ∷ []
three_fields fields a b c many first second third =
    sym (take_all 3 fields (omega (arith, many)))
    ∙ take_field fields 2 c third
    ∙ ap (λ l. l ++ c ∷ []) (take_field fields 1 b second)
    ∙ ap (λ l. (l ++ b ∷ []) ++ c ∷ []) (take_field fields 0 a first)

-- a field that isn't there reads as empty
pub no_word : (fields : List (List ℕ)) (i : ℕ) → field_at fields i ≡ None → get_or fields i [] ≡ []
no_word fields i none = get_or_past fields i [] (no_field fields i none)

-- a test for no bytes
pub is_empty-of : (word : List ℕ) (b : Bool) → b ≡ (length word == 0) → IsTrue b ↔ (word ≡ [])
is_empty-of [] b is = (λ _. refl, λ _. is)
is_empty-of (c ∷ cs) b is =
    (λ yes. absurd (let none = eqb-true (length (c ∷ cs)) 0 (sym is ∙ yes) in omega (arith, none)), λ e. cc e)

-- what a field reads as, where it is there
pub there_is_word : (fields : List (List ℕ)) (i : ℕ) → i < length fields → field_at fields i ≡ Some (get_or fields i [])
unfolding field_at
there_is_word [] i below = absurd (omega arith)
there_is_word (f ∷ fs) zero below = refl
there_is_word (f ∷ fs) (suc i) below = there_is_word fs i (omega arith)
