-- Rows of entries.
use Rattle.std.specs.Prelude.{Bool, ℕ, ◌<◌, ◌==◌, not, List, [], ◌∷◌, ◌++◌, AllPairs, filter, map, if◌then◌else◌}
use Rattle.std.specs.List.{list_any}
use Rattle.tuple_match.specs.FieldValue.{FieldValue}
use Rattle.tuple_space.specs.Lease.{is_permanent, later}
use Rattle.tuple_space.specs.declared.lease.LeaseEnd.{LeaseEnd}
use Rattle.tuple_space.specs.declared.entry.Entry.{Entry}

-- the numbers increase
abbrev pub IsRising : List Entry → Type 0
IsRising entries = AllPairs (λ x y. x.number < y.number) entries

-- some entry has the number
abbrev pub has_number : ℕ → List Entry → Bool
has_number number entries = list_any (λ e. e.number == number) entries

-- all entries except that of a number
abbrev pub without : ℕ → List Entry → List Entry
without number entries = filter (λ e. not (e.number == number)) entries

-- the entry of a number changed
abbrev pub changed : ℕ → (Entry → Entry) → List Entry → List Entry
changed number change entries = map (λ e. if e.number == number then change e else e) entries

-- an edit of rows only at the entry of a number
abbrev pub edited_at : ℕ → (List Entry → List Entry) → List Entry → List Entry
edited_at number edit [] = []
edited_at number edit (x ∷ xs) = (if x.number == number then edit (x ∷ []) else x ∷ []) ++ edited_at number edit xs

-- an entry whose lease ends at its end or at another one, whichever is later
abbrev pub with_end : LeaseEnd → Entry → Entry
with_end end e = record e { end = later e.end end }

-- the permanent tuples among entries
abbrev pub permanent_tuples : List Entry → List (List FieldValue)
permanent_tuples entries = map (λ e. e.tuple) (filter (λ e. is_permanent e.end) entries)
