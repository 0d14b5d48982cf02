-- The entries that result from a transaction's writes.
use Rattle.std.specs.Prelude.{ℕ, ◌+◌, not, List, [], ◌∷◌, filter}
use Rattle.tuple_space.specs.Lease.{granted}
use Rattle.tuple_space.specs.declared.entry.Entry.{Entry}
use Rattle.tuple_space.specs.declared.write.Write.{Write}

-- an entry for each write, in order: its lease is granted at this moment, its number continues from the last one, and nobody holds it
abbrev pub entries_for : ℕ → ℕ → List Write → List Entry
entries_for moment last [] = []
entries_for moment last (x ∷ xs) =
    record { number = last + 1; tuple = x.tuple; end = granted moment x.lease; holds = [] } ∷ entries_for moment (last + 1) xs

-- those for the writes that were not taken again
abbrev pub granted_entries : ℕ → ℕ → List Write → List Entry
granted_entries moment last writes = entries_for moment last (filter (λ x. not x.taken) writes)
