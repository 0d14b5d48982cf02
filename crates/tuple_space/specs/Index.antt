-- The index of entries: their numbers by the word with which a tuple begins, and its number of fields.
use Rattle.std.specs.Prelude.{◌≡◌, ◌≢◌, ◌≤◌, ℕ, zero, suc, ◌+◌, ◌==◌, ◌&&◌, ◌||◌, not, if◌then◌else◌, Bool, true, false, List, [], ◌∷◌, ◌++◌, All, AllPairs, IfSome, MatchOption, Option, Some, None, filter, length, map, nat_eq}
use Rattle.std.specs.List.{list_any}
use Rattle.std.specs.Option.{unwrap_or}
use Rattle.std.specs.Str.{bytes_eq}
use Rattle.indexmap.specs.IndexMap.{IndexMap, get}
use Rattle.tuple_match.specs.FieldValue.{FieldValue, word}
use Rattle.tuple_match.specs.PatternValue.{PatternValue, actual}
use Rattle.tuple_space.specs.Held.{AreRising, is_among}
use Rattle.tuple_space.specs.Slots.{is_in, is_slot_of, sought_slot}
use Rattle.tuple_space.specs.Wanted.{is_wanted}
use Rattle.tuple_space.specs.declared.search.Wanted.{Wanted}
use Rattle.tuple_space.specs.declared.entry.Entry.{Entry}
use Rattle.tuple_space.specs.declared.hasher.NumberHasher.{NumberHasher}
use Rattle.tuple_space.specs.declared.index.Bucket.{Bucket}
use Rattle.tuple_space.specs.declared.index.Slot.{Slot}
use Rattle.tuple_space.specs.declared.index.Slot.TheVariants.{Length, Value}
use Rattle.tuple_space.specs.declared.write.Write.{Write}

-- the word with which a tuple begins
abbrev pub first_word : List FieldValue → Option (List ℕ)
first_word (word bytes ∷ fields) = Some bytes
first_word _ = None

-- the first word of a template
abbrev pub sought_word : List PatternValue → Option (List ℕ)
sought_word (actual (word bytes) ∷ patterns) = Some bytes
sought_word _ = None

-- a bucket of tuples that begin with a word and have this many fields
abbrev pub is_of : List ℕ → ℕ → Bucket → Bool
is_of bytes count bucket = (bucket.count == count) && bytes_eq (bucket.word.items) bytes

-- the numbers under a length, among lists indexed by length
abbrev pub list_at : ℕ → List (List ℕ) → List ℕ
list_at length [] = []
list_at zero (l ∷ ls) = l
list_at (suc length) (l ∷ ls) = list_at length ls

-- the numbers under a value, among lists indexed by value
abbrev pub list_under : ℕ → IndexMap ℕ (List ℕ) NumberHasher → List ℕ
list_under value lists = unwrap_or (get nat_eq lists value) []

-- no list under a value is empty, so values that are gone take no memory
abbrev pub AreInUse : IndexMap ℕ (List ℕ) NumberHasher → Type 0
AreInUse lists = (value : ℕ) → IfSome (get nat_eq lists value) (λ list. list ≢ [])

-- the numbers in a slot of a bucket
abbrev pub numbers_at : Slot → Bucket → List ℕ
numbers_at (Length l) b = list_at l b.by_length.items
numbers_at (Value v) b = list_under v b.by_value

-- a class of tuples: their first word, their number of fields, and their slot
pub record Class : Type 0 where
  pub word : List ℕ
  pub count : ℕ
  pub slot : Slot

-- the class of this first word, this number of fields and this length of the second field, 0 if it is not a list
abbrev pub class_of : List ℕ → ℕ → ℕ → Class
class_of bytes count numbered = record { word = bytes; count = count; slot = Length numbered }

-- there is a first word, and it is the requested one
abbrev pub is_word : Option (List ℕ) → List ℕ → Bool
is_word (Some bytes) sought = bytes_eq bytes sought
is_word None sought = false

-- a tuple is in a class; one that does not begin with a word is in none
abbrev pub has_class : Class → List FieldValue → Bool
has_class class tuple = ((length tuple == class.count) && is_word (first_word tuple) class.word) && is_in class.slot tuple

-- the numbers of a class
abbrev pub numbers_of : Class → List Bucket → List ℕ
numbers_of class [] = []
numbers_of class (b ∷ bs) = if is_of class.word class.count b then numbers_at class.slot b else numbers_of class bs

-- a number is one of them
abbrev pub is_put : Class → ℕ → List Bucket → Bool
is_put class number buckets = is_among number (numbers_of class buckets)

-- the key of a bucket
abbrev pub key : Bucket → List ℕ × ℕ
key bucket = (bucket.word.items, bucket.count)

-- no two buckets have the same word and count
abbrev pub AreOnce : List Bucket → Type 0
AreOnce buckets = AllPairs (λ k j. k ≢ j) (map key buckets)

-- the numbers of each class increase
abbrev pub AreOrdered : List Bucket → Type 0
AreOrdered buckets = (class : Class) → AreRising (numbers_of class buckets)

-- some entry of a class has the number
abbrev pub is_numbered : Class → ℕ → List Entry → Bool
is_numbered class number entries = list_any (λ e. (e.number == number) && has_class class e.tuple) entries

-- each class contains, in ascending order, exactly the numbers of the entries whose tuples are in it
pub record AreIndexed (buckets : List Bucket) (entries : List Entry) : Type 0 where
  pub once : AreOnce buckets
  pub rising : AreOrdered buckets
  pub exact : (class : Class) (number : ℕ) → is_put class number buckets ≡ is_numbered class number entries

-- the numbers are unchanged
abbrev pub AreSame : List Bucket → List Bucket → Type 0
AreSame old new = (class : Class) → numbers_of class new ≡ numbers_of class old

-- the number of a tuple was appended to those of its class
abbrev pub IsAdded : List FieldValue → ℕ → List Bucket → List Bucket → Type 0
IsAdded tuple number old new = (class : Class) → numbers_of class new ≡ numbers_of class old ++ (if has_class class tuple then number ∷ [] else [])

-- the number of a tuple was removed
abbrev pub IsDropped : List FieldValue → ℕ → List Bucket → List Bucket → Type 0
IsDropped tuple number old new = (class : Class) → numbers_of class new ≡ filter (λ n. not (has_class class tuple && (n == number))) (numbers_of class old)

-- the number last given after a write
abbrev pub last_after : ℕ → Write → ℕ
last_after last write = if write.taken then last else last + 1

-- a write will have this number, and its tuple is in this class
abbrev pub is_next : Class → ℕ → ℕ → Write → Bool
is_next class number last write = not write.taken && (has_class class write.tuple && (number == last + 1))

-- one of several will
abbrev pub is_to_be : Class → ℕ → ℕ → List Write → Bool
is_to_be class number last [] = false
is_to_be class number last (x ∷ xs) = is_next class number last x || is_to_be class number (last_after last x) xs

-- the numbers of each class increase, up to one
pub record AreUpTo (last : ℕ) (buckets : List Bucket) : Type 0 where
  pub rising : AreOrdered buckets
  pub most : (class : Class) → All (λ n. n ≤ last) (numbers_of class buckets)

-- the entry of a number is not wanted
abbrev pub IsUnwanted : Wanted → ℕ → List PatternValue → List Entry → ℕ → Type 0
IsUnwanted wanted moment template entries number = All (λ e. e.number ≡ number → is_wanted wanted moment template e ≡ false) entries

-- if a bucket has the word and the length of the template, no entry is wanted whose number is in the slot that the template requires, or in
-- any if it requires none
abbrev pub HasNoneWanted : List ℕ → Wanted → ℕ → List PatternValue → List Entry → Bucket → Type 0
HasNoneWanted bytes wanted moment template entries bucket =
    is_of bytes (length template) bucket ≡ true →
    MatchOption (sought_slot template)
    (All (All (IsUnwanted wanted moment template entries)) bucket.by_length.items)
    (λ s. All (IsUnwanted wanted moment template entries) (numbers_at s bucket))

-- a number was added to the slot of a length, and to that of a value, if there is one
abbrev pub IsPutIn : ℕ → Option ℕ → ℕ → Bucket → Bucket → Type 0
IsPutIn long value number old new = (s : Slot) → numbers_at s new ≡ numbers_at s old ++ (if is_slot_of long value s then number ∷ [] else [])

-- a number was removed from the slots of a tuple
abbrev pub IsTakenFrom : List FieldValue → ℕ → Bucket → Bucket → Type 0
IsTakenFrom tuple number old new = (s : Slot) → numbers_at s new ≡ filter (λ n. not (is_in s tuple && (n == number))) (numbers_at s old)

-- the numbers in each slot are unchanged
abbrev pub HasSame : Bucket → Bucket → Type 0
HasSame old new = (s : Slot) → numbers_at s new ≡ numbers_at s old
