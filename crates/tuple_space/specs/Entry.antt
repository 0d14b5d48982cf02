-- A tuple in the space, with its number, its lease and its holders.
use Rattle.std.specs.Prelude.{◌≡◌, ◌≢◌, ℕ, Bool, true, not, ◌&&◌, ◌||◌, ◌==◌, List, All, AllPairs}
use Rattle.std.specs.List.{list_any, list_all}
use Rattle.tuple_match.specs.PatternValue.{PatternValue}
use Rattle.tuple_match.specs.Matching.{does_match}
use Rattle.tuple_space.specs.Lease.{is_live, is_permanent}
use Rattle.tuple_space.specs.Holds.{holds_without}
use Rattle.tuple_space.specs.declared.hold.Hold.{Hold}
use Rattle.tuple_space.specs.declared.entry.Entry.{Entry}
use Rattle.tuple_space.specs.declared.entry.Claim.{Claim}
use Rattle.tuple_space.specs.declared.entry.Claim.TheVariants.{Read, Take, TakeBy}

-- somebody took or read it, and still holds it
abbrev pub is_held : Entry → Bool
is_held e = list_any (λ (h : Hold). true) e.holds

-- a holder, named by a number, took or read it
abbrev pub is_held_by : ℕ → Entry → Bool
is_held_by holder e = list_any (λ h. h.by == holder) e.holds

-- somebody took it
abbrev pub is_taken : Entry → Bool
is_taken e = list_any (λ h. h.taken) e.holds

-- a holder took it
abbrev pub is_taken_by : ℕ → Entry → Bool
is_taken_by holder e = list_any (λ h. (h.by == holder) && h.taken) e.holds

-- a holder took it, and somebody else also holds it
abbrev pub is_shared : ℕ → Entry → Bool
is_shared holder e = is_taken_by holder e && list_any (λ h. not (h.by == holder)) e.holds

-- it exists: its lease is live, or somebody holds it
abbrev pub is_there : ℕ → Entry → Bool
is_there moment e = is_live moment e.end || is_held e

-- it can be read: its lease is live, and nobody took it
abbrev pub can_be_read : ℕ → Entry → Bool
can_be_read moment e = is_live moment e.end && not (is_taken e)

-- what a claim requires: that it can be read; that it can be, and nobody else holds it
abbrev pub is_open : Claim → ℕ → Entry → Bool
is_open Read moment e = can_be_read moment e
is_open Take moment e = can_be_read moment e && not (is_held e)
is_open (TakeBy holder) moment e = can_be_read moment e && list_all (λ h. h.by == holder) e.holds

-- it is available: the claim allows it, and its tuple matches the template
abbrev pub can_be_had : Claim → ℕ → List PatternValue → Entry → Bool
can_be_had claim moment template e = is_open claim moment e && does_match template e.tuple

-- it counts: it exists, and its tuple matches the template
abbrev pub is_counted : ℕ → List PatternValue → Entry → Bool
is_counted moment template e = is_there moment e && does_match template e.tuple

-- an entry without the holds of one holder
abbrev pub unheld : ℕ → Entry → Entry
unheld holder e = record e { holds = holds_without holder e.holds }

-- what holds for every entry: nobody holds it twice, and if it was permanent when it was marked, it still is
pub record IsEntry (e : Entry) : Type 0 where
  pub once : AllPairs (λ h k. h.by ≢ k.by) e.holds
  pub stays : All (λ h. h.permanent ≡ true → is_permanent e.end ≡ true) e.holds
