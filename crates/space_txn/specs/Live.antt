-- The live transactions: the number of each, and the end of its lease.
use Rattle.std.specs.Prelude.{◌≡◌, ℕ, ◌<◌, ◌==◌, ◌&&◌, not, nat_lt, max, Bool, true, All, List, [], ◌∷◌, filter, map, if◌then◌else◌}
use Rattle.std.specs.List.{AllPairs, list_any}
use Rattle.std.specs.Map.{values_of}
use Rattle.tuple_space.specs.Entries.{AreNumbered}
use Rattle.tuple_space.specs.Space.{SpaceValue, with_entries, released}
use Rattle.tuple_space.specs.declared.entry.Entry.{Entry}
use Rattle.space_txn.specs.declared.live.Live.{Live}

-- each under its number, in ascending order
pub record AreInOrder (rows : List (ℕ × Live)) : Type 0 where
  pub numbered : AreNumbered (λ t. t.number) rows
  pub rising : AllPairs (λ t u. t.number < u.number) (values_of rows)

-- a transaction with this number is live: the moment is before its end
abbrev pub is_live_in : ℕ → ℕ → List Live → Bool
is_live_in moment number live = list_any (λ t. (t.number == number) && nat_lt moment t.end) live

-- each hold of each entry is that of one of them which is live at the moment
abbrev pub AreHeldBy : ℕ → List Live → List Entry → Type 0
AreHeldBy moment live entries = All (λ e. All (λ h. is_live_in moment h.by live ≡ true) e.holds) entries

-- a transaction's end moved to another one if that is later
abbrev pub renewed_row : ℕ → ℕ → Live → Live
renewed_row number end t = if t.number == number then record t { end = max t.end end } else t

-- the rows of live transactions after the end of the one with this number is so moved
abbrev pub renewed_rows : ℕ → ℕ → List Live → List Live
renewed_rows number end live = map (renewed_row number end) live

-- the rows of other transactions
abbrev pub others : ℕ → List Live → List Live
others number live = filter (λ t. not (t.number == number)) live

-- the rows of transactions whose lease has ended at a moment, and of the others
abbrev pub ended_at : ℕ → List Live → List Live
ended_at moment live = filter (λ t. not (nat_lt moment t.end)) live

-- the rows of transactions whose lease has not ended at a moment
abbrev pub going_at : ℕ → List Live → List Live
going_at moment live = filter (λ t. nat_lt moment t.end) live

-- the space without a transaction's marks; an entry whose lease has ended is removed with its last mark
abbrev pub unmarked : ℕ → SpaceValue → SpaceValue
unmarked number s = with_entries s (released number s.moment s.entries)

-- the marks of these transactions dropped, in sequence
abbrev pub abort_each : List Live → SpaceValue → SpaceValue
abort_each [] s = s
abort_each (t ∷ ts) s = abort_each ts (unmarked t.number s)
