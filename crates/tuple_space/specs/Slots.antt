-- The slots of a bucket in which the number of a tuple is stored, by its second field.
use Rattle.std.specs.Prelude.{ℕ, ◌+◌, ◌*◌, ◌%◌, ◌^◌, ◌==◌, unsigned_abs, Bool, false, List, [], ◌∷◌, Option, Some, None, length}
use Rattle.tuple_match.specs.FieldValue.{FieldValue, number, word, numbers}
use Rattle.tuple_match.specs.PatternValue.{PatternValue, actual}
use Rattle.tuple_space.specs.declared.index.Slot.{Slot}
use Rattle.tuple_space.specs.declared.index.Slot.TheVariants.{Length, Value}

-- the length of a tuple's second field, if that is a list
abbrev pub second_length : List FieldValue → ℕ
second_length (first ∷ numbers ns ∷ fields) = length ns
second_length _ = 0

-- the bytes of a word as digits in base 31, modulo 2 ^ 64
abbrev pub word_value : List ℕ → ℕ
word_value [] = 0
word_value (b ∷ bs) = (b + 31 * word_value bs) % 2 ^ 64

-- the value of a field that is not a list, below 2 ^ 64: equal fields have the same
abbrev pub value_of : FieldValue → Option ℕ
value_of (number n) = Some (unsigned_abs n % 2 ^ 64)
value_of (word bytes) = Some (word_value bytes)
value_of (numbers ns) = None

-- likewise for a tuple's second field
abbrev pub second_value : List FieldValue → Option ℕ
second_value (first ∷ second ∷ fields) = value_of second
second_value _ = None

-- the slot of a tuple with this second field, if there is one
abbrev pub slot_of : FieldValue → Slot
slot_of (number n) = Value (unsigned_abs n % 2 ^ 64)
slot_of (word bytes) = Value (word_value bytes)
slot_of (numbers ns) = Length (length ns)

-- the slot of the second field that a template requires, if it is an actual
abbrev pub sought_slot : List PatternValue → Option Slot
sought_slot (first ∷ actual second ∷ patterns) = Some (slot_of second)
sought_slot _ = None

-- there is a value, and it is this one
abbrev pub is_value : Option ℕ → ℕ → Bool
is_value (Some v) sought = v == sought
is_value None sought = false

-- a slot is that of this length, or that of this value, if there is one
abbrev pub is_slot_of : ℕ → Option ℕ → Slot → Bool
is_slot_of long value (Length l) = long == l
is_slot_of long value (Value v) = is_value value v

-- a tuple is in a slot: that of its second field's length, 0 if it is not a list, and then that of its value too
abbrev pub is_in : Slot → List FieldValue → Bool
is_in slot tuple = is_slot_of (second_length tuple) (second_value tuple) slot
