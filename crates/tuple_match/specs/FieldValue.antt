use Rattle.std.specs.Prelude.{ℕ, ℤ, ◌≤◌, List, length, Option, Some, None}
use Rattle.tuple_match.specs.Word.{IsWord}

-- a field of a tuple (Gelernter 1985): a number, the bytes of a word, or a list of numbers
pub data FieldValue : Type 0 where
  number : ℤ → FieldValue
  word : List ℕ → FieldValue
  numbers : List ℤ → FieldValue

-- the limits of one field, this project's own
abbrev pub IsField : FieldValue → Type 0
IsField (number n) = Unit {0}
IsField (word bytes) = IsWord bytes
IsField (numbers ns) = length ns ≤ 1024

-- the number in a field
abbrev pub number_of : FieldValue → Option ℤ
number_of (number n) = Some n
number_of (word bytes) = None
number_of (numbers ns) = None

-- the bytes of the word in a field
abbrev pub word_of : FieldValue → Option (List ℕ)
word_of (number n) = None
word_of (word bytes) = Some bytes
word_of (numbers ns) = None

-- the numbers of the list in a field
abbrev pub numbers_of : FieldValue → Option (List ℤ)
numbers_of (number n) = None
numbers_of (word bytes) = None
numbers_of (numbers ns) = Some ns
