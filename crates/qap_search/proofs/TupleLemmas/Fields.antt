-- Rows of fields and what they say.
use Rattle.std.proofs.Common.{◌≡◌, ◌≢◌, ◌↔◌, ℕ, ◌≤◌, ◌<◌, IsTrue, Bool, List, [], ◌∷◌, ◌++◌, length, get_or, take, sym, ap, ◌∙◌, refl, arith, codes, length-append}
use Rattle.std.specs.Prelude.{ℤ, Option, Some, None, pos}
use Rattle.std.proofs.lemmas.Option.{none-some}
use Rattle.std.specs.Str.{bytes_eq}
use Rattle.std.proofs.lemmas.Slice.Eq.{bytes_eq-Decides}
use Rattle.tuple_match.specs.Field.{field_value, fields_value}
use Rattle.tuple_match.specs.FieldValue.{FieldValue, number, number_of, numbers, numbers_of, word, word_of}
use Rattle.tuple_match.specs.declared.fields.Field.{Field}
use Rattle.qap_search.specs.Tuples.DecidedTuples.{IsNoPiece}

abbrev word_in : Option (List ℕ) → List ℕ
word_in (Some bytes) = bytes
word_in None = []

-- the word that a field is said to be
pub word_said : (field : FieldValue) (bytes : List ℕ) → Some bytes ≡ word_of field → field ≡ word bytes
word_said (number m) bytes e = absurd (none-some bytes (sym e))
word_said (word s) bytes e = ap word (sym (ap word_in e))
word_said (numbers ms) bytes e = absurd (none-some bytes (sym e))

abbrev bytes_in : FieldValue → List ℕ
bytes_in (word bytes) = bytes
bytes_in _ = []

-- a test of a word's bytes decides which word the field is
pub word_test : (b : Bool) (s t : List ℕ) (field : FieldValue) → b ≡ bytes_eq s t → field ≡ word s → IsTrue b ↔ (field ≡ word t)
word_test b s t field tests is =
    let decides = bytes_eq-Decides s t in
    (λ h. is ∙ ap word (decides.0 (sym tests ∙ h)), λ e. tests ∙ decides.1 (ap bytes_in (sym is ∙ e)))

-- a row of one field is that field
pub only_field : (fields : List Field) (field : Field) → 1 ≤ length fields → length fields < 2 → field ≡ get_or fields 0 field → fields ≡ field ∷ []
only_field [] field some few is = absurd (omega arith)
only_field (x ∷ []) field some few is = ap (λ (y : Field). y ∷ []) (sym is)
only_field (x ∷ y ∷ ys) field some few is = absurd (omega arith)

abbrev first_of_row : List FieldValue → FieldValue
first_of_row [] = word []
first_of_row (x ∷ xs) = x

-- a test of the word of a field is one of the row that has this field alone
pub only_word_test : (b : Bool) (fields : List Field) (field : Field) (name : List ℕ) → fields ≡ field ∷ [] → IsTrue b ↔ (field_value field ≡ word name) → IsTrue b ↔ (fields_value fields ≡ word name ∷ [])
only_word_test b fields field name is test =
    let row : fields_value fields ≡ field_value field ∷ [] = ap fields_value is in
    (λ h. row ∙ ap (λ (x : FieldValue). x ∷ []) (test.0 h), λ e. test.1 (ap first_of_row (sym row ∙ e)))

abbrev number_in : Option ℤ → ℤ
number_in (Some n) = n
number_in None = pos 0

abbrev numbers_within : Option (List ℤ) → List ℤ
numbers_within (Some ns) = ns
numbers_within None = []

-- the number that a field is said to be
pub number_from : (field : FieldValue) (n : ℤ) → Some n ≡ number_of field → field ≡ number n
number_from (number m) n e = ap number (sym (ap number_in e))
number_from (word s) n e = absurd (none-some n (sym e))
number_from (numbers ms) n e = absurd (none-some n (sym e))

-- the list that a field is said to be
pub numbers_from : (field : FieldValue) (ns : List ℤ) → Some ns ≡ numbers_of field → field ≡ numbers ns
numbers_from (number m) ns e = absurd (none-some ns (sym e))
numbers_from (word s) ns e = absurd (none-some ns (sym e))
numbers_from (numbers ms) ns e = ap numbers (sym (ap numbers_within e))

-- a field that is no number and no list is a word
pub word_from : (field : FieldValue) → None ≡ number_of field → None ≡ numbers_of field → (bytes : List ℕ) × (field ≡ word bytes)
word_from (number m) e f = absurd (none-some m e)
word_from (word s) e f = (s, refl)
word_from (numbers ms) e f = absurd (none-some ms f)

-- which kind of field it is
abbrev kind : FieldValue → ℕ
kind (number n) = 1
kind (word s) = 2
kind (numbers ns) = 3

abbrev kind_at : ℕ → List FieldValue → ℕ
kind_at i row = kind (get_or row i (word []))

-- two lists behind some fields are those of a closed node's tuple, or of no piece
pub no_closed_piece : (row : List FieldValue) (u v : List ℤ) → ((xs : List ℤ) → row ≢ word (codes "closed") ∷ numbers xs ∷ []) → IsNoPiece (row ++ numbers u ∷ numbers v ∷ [])
no_closed_piece [] u v none = record {
  no_best = λ c ps e. let same = ap length e in absurd (omega arith);
  no_split = λ xs f e. let same = ap length e in absurd (omega arith);
  no_closed = λ xs w z e. let same = ap length e in absurd (omega arith);
}
no_closed_piece (a ∷ []) u v none = record {
  no_best = λ c ps e. let same : kind (numbers u) ≡ kind (number c) = ap (kind_at 1) e in absurd (omega arith);
  no_split = λ xs f e. let same : kind (numbers v) ≡ kind (number f) = ap (kind_at 2) e in absurd (omega arith);
  no_closed = λ xs w z e. let same = ap length e in absurd (omega arith);
}
no_closed_piece (a ∷ b ∷ []) u v none = record {
  no_best = λ c ps e. let same = ap length e in absurd (omega arith);
  no_split = λ xs f e. let same = ap length e in absurd (omega arith);
  no_closed = λ xs w z e. none xs (ap (take 2) e);
}
no_closed_piece (a ∷ b ∷ d ∷ row) u v none =
    let long = length-append row (numbers u ∷ numbers v ∷ []) in
    record {
      no_best = λ c ps e. let same = ap length e in absurd (omega arith);
      no_split = λ xs f e. let same = ap length e in absurd (omega arith);
      no_closed = λ xs w z e. let same = ap length e in absurd (omega arith);
    }

-- a number and a list behind some fields are those of a best permutation's tuple, or of no piece
pub no_numbered_piece : (row : List FieldValue) (n : ℤ) (ns : List ℤ) → row ≢ word (codes "best") ∷ [] → IsNoPiece (row ++ number n ∷ numbers ns ∷ [])
no_numbered_piece [] n ns other = record {
  no_best = λ c ps e. let same = ap length e in absurd (omega arith);
  no_split = λ xs f e. let same = ap length e in absurd (omega arith);
  no_closed = λ xs w z e. let same = ap length e in absurd (omega arith);
}
no_numbered_piece (a ∷ []) n ns other = record {
  no_best = λ c ps e. other (ap (take 1) e);
  no_split = λ xs f e. let same : kind (numbers ns) ≡ kind (number f) = ap (kind_at 2) e in absurd (omega arith);
  no_closed = λ xs w z e. let same = ap length e in absurd (omega arith);
}
no_numbered_piece (a ∷ b ∷ []) n ns other = record {
  no_best = λ c ps e. let same = ap length e in absurd (omega arith);
  no_split = λ xs f e. let same = ap length e in absurd (omega arith);
  no_closed = λ xs w z e. let same : kind (number n) ≡ kind (numbers w) = ap (kind_at 2) e in absurd (omega arith);
}
no_numbered_piece (a ∷ b ∷ d ∷ row) n ns other =
    let long = length-append row (number n ∷ numbers ns ∷ []) in
    record {
      no_best = λ c ps e. let same = ap length e in absurd (omega arith);
      no_split = λ xs f e. let same = ap length e in absurd (omega arith);
      no_closed = λ xs w z e. let same = ap length e in absurd (omega arith);
    }
