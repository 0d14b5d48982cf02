-- The space: entries in ascending order of number, the moment, and the last number given.
use Rattle.std.specs.Prelude.{Bool, ℕ, ◌+◌, ◌<◌, ◌≤◌, ◌^◌, nat_lt, not, ◌||◌, List, [], ◌∷◌, ◌++◌, All, filter, map, if◌then◌else◌}
use Rattle.tuple_match.specs.FieldValue.{FieldValue}
use Rattle.tuple_space.specs.Lease.{granted, is_permanent}
use Rattle.tuple_space.specs.Entry.{IsEntry, is_there, is_held_by, is_taken_by, unheld}
use Rattle.tuple_space.specs.Holds.{holds_with}
use Rattle.tuple_space.specs.Rows.{IsRising}
use Rattle.tuple_space.specs.declared.lease.Lease.{Lease}
use Rattle.tuple_space.specs.declared.entry.Entry.{Entry}

-- moments, and the numbers of entries, are at most this
abbrev pub most : ℕ
most = 2 ^ 62

-- a space: its entries, its moment, and the last number given
pub record SpaceValue : Type 0 where
  pub entries : List Entry
  pub moment : ℕ
  pub last : ℕ

-- what holds for every space: the numbers increase, from 1 to the last one, and each entry's holds are in order
pub record IsSpace (w : SpaceValue) : Type 0 where
  pub rising : IsRising w.entries
  pub entries : All IsEntry w.entries
  pub numbered : All (λ (e : Entry). (0 < e.number) × (e.number ≤ w.last)) w.entries
  pub few : w.last ≤ most
  pub early : w.moment ≤ most

-- the space of these entries, at this moment, with this last number
abbrev pub space_of : List Entry → ℕ → ℕ → SpaceValue
space_of entries moment last = record { entries = entries; moment = moment; last = last }

-- nothing has been written yet
abbrev pub opening : SpaceValue
opening = record { entries = []; moment = 0; last = 0 }

-- a tuple written under the next number, with its lease granted at the moment, and held by nobody
abbrev pub put : SpaceValue → List FieldValue → Lease → SpaceValue
put w tuple lease =
    record {
      entries = w.entries ++ record { number = w.last + 1; tuple = tuple; end = granted w.moment lease; holds = [] } ∷ [];
      moment = w.moment;
      last = w.last + 1;
    }

-- the same space with other entries
abbrev pub with_entries : SpaceValue → List Entry → SpaceValue
with_entries w entries = record { entries = entries; moment = w.moment; last = w.last }

-- the moment advanced, and only existing entries kept; an earlier moment changes nothing
abbrev pub advanced : ℕ → SpaceValue → SpaceValue
advanced moment w =
    if nat_lt moment w.moment then w else record { entries = filter (is_there moment) w.entries; moment = moment; last = w.last }

-- an entry held: by whom, whether taken, and whether it is permanent now
abbrev pub held_by : ℕ → Bool → Entry → Entry
held_by holder taken e = record e { holds = holds_with (record { by = holder; taken = taken; permanent = is_permanent e.end }) e.holds }

-- whether an entry stays when a holder's hold of it ends: one whose lease has ended is removed with its last hold
abbrev pub stays_without : ℕ → ℕ → Entry → Bool
stays_without holder moment e = not (is_held_by holder e) || is_there moment (unheld holder e)

-- the holds of a holder ended
abbrev pub released : ℕ → ℕ → List Entry → List Entry
released holder moment entries = map (unheld holder) (filter (stays_without holder moment) entries)

-- all entries except those that a holder took
abbrev pub without_taken : ℕ → List Entry → List Entry
without_taken holder entries = filter (λ e. not (is_taken_by holder e)) entries
