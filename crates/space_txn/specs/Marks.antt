-- The marks that a transaction has put on entries.
use Rattle.std.specs.Prelude.{◌≡◌, ℕ, ◌-◌, ◌<◌, ◌≤◌, ◌==◌, nat_lt, Bool, List, [], ◌∷◌, find, map, Contains, None, Some, Option, if◌then◌else◌}
use Rattle.std.specs.List.{AllPairs, filter_map}
use Rattle.smallvec.specs.SmallVec.{SmallVec, small_vec_len}
use Rattle.std.specs.Option.{option_and_then, option_map}
use Rattle.tuple_space.specs.Lease.{is_permanent}
use Rattle.tuple_space.specs.Places.{items_in}
use Rattle.tuple_space.specs.declared.entry.Entry.{Entry}
use Rattle.tuple_space.specs.declared.held.Held.{Held}
use Rattle.tuple_space.specs.declared.hold.Hold.{Hold}
use Rattle.space_txn.specs.declared.mark.Mark.{Mark}

-- marks in order, and how many more fit without allocation
pub record MarksValue : Type 0 where
  pub items : List Mark
  pub room : ℕ

-- storage for marks: each place in use holds one, four take no memory, and the marks are in ascending order of the entries' numbers
pub record AreMarks (places : SmallVec (Option Mark)) : Type 0 where
  pub ready : 4 ≤ places.capacity
  pub each : places.items ≡ map Some (items_in places.items)
  pub rising : AllPairs (λ m n. m.entry < n.entry) (items_in places.items)

-- how many more items fit into a small vector without allocation
abbrev pub room_of : {A : Type 0} → SmallVec A → ℕ
room_of places = places.capacity - small_vec_len places

-- a mark on an entry, with the entry's tuple
abbrev pub mark_as : Entry → Bool → Bool → Mark
mark_as e taken permanent = record { entry = e.number; tuple = e.tuple; taken = taken; permanent = permanent }

-- the mark for a hold of an entry
abbrev pub mark_from : Entry → Hold → Mark
mark_from e h = mark_as e h.taken h.permanent

-- a transaction's mark on an entry
abbrev pub mark_of : ℕ → Entry → Option Mark
mark_of number e = option_map (mark_from e) (find (λ h. h.by == number) e.holds)

-- the marks of a transaction, in ascending order of the entries' numbers: what it took, and what it read and did not take
abbrev pub marks_of : ℕ → List Entry → List Mark
marks_of number entries = filter_map (mark_of number) entries

-- a transaction's mark on the entry of a number, if there is such an entry
abbrev pub mark_at : ℕ → List Entry → ℕ → Option Mark
mark_at number entries entry = option_and_then (mark_of number) (find (λ e. e.number == entry) entries)

-- a transaction's mark on the entry of a row, if that is its own
abbrev pub mark_in : ℕ → List Entry → Held → Option Mark
mark_in number entries row = if row.by == number then mark_at number entries row.entry else None

-- the mark that a transaction puts on an entry now
abbrev pub new_mark : Entry → Bool → Mark
new_mark e taken = mark_as e taken (is_permanent e.end)

-- it is such a mark on one of the entries
abbrev pub IsNewMark : List Entry → Mark → Type 0
IsNewMark entries m = (e : Entry) × Contains entries e × (m ≡ new_mark e m.taken)

-- marks in ascending order of number with one more, which replaces an older mark on the same entry
abbrev pub with_mark : Mark → List Mark → List Mark
with_mark m [] = m ∷ []
with_mark m (x ∷ xs) =
    if nat_lt x.entry m.entry then x ∷ with_mark m xs else (if x.entry == m.entry then m ∷ xs else m ∷ x ∷ xs)
