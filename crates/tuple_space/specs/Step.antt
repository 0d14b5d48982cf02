-- The possible answers to a call of the space and its effects: the rules of the space for calls outside transactions.
-- It is not specified which of several available tuples is found.
use Rattle.std.specs.Prelude.{◌≡◌, Bool, ℕ, ◌+◌, ◌<◌, ◌≤◌, true, false, List, All, Contains, count_by, Option, Some, None, Result, Ok, Err, ◌&&◌, ◌==◌}
use Rattle.std.specs.List.{list_any}
use Rattle.tuple_match.specs.FieldValue.{FieldValue}
use Rattle.tuple_match.specs.PatternValue.{PatternValue}
use Rattle.tuple_space.specs.Lease.{granted, is_live}
use Rattle.tuple_space.specs.Entry.{can_be_had, is_counted}
use Rattle.tuple_space.specs.Space.{SpaceValue, most, put, with_entries, advanced}
use Rattle.tuple_space.specs.Rows.{changed, with_end, without}
use Rattle.tuple_space.specs.declared.lease.Lease.{Lease}
use Rattle.tuple_space.specs.declared.entry.Entry.{Entry}
use Rattle.tuple_space.specs.declared.entry.Claim.{Claim}
use Rattle.tuple_space.specs.declared.entry.Claim.TheVariants.{Read, Take}
use Rattle.tuple_space.specs.declared.error.SpaceError.{SpaceError}
use Rattle.tuple_space.specs.declared.error.SpaceError.TheVariants.{Exhausted, NotThere, OutOfMemory}

-- the calls
pub data Event : Type 0 where
  out : List FieldValue → Lease → Event
  inp : List PatternValue → Event
  rdp : List PatternValue → Event
  renew : ℕ → Lease → Event
  advance : ℕ → Event
  count : List PatternValue → Event
  now : Event

-- the answers
pub data Reply : Type 0 where
  given : ℕ → Reply
  got : ℕ → List FieldValue → Reply
  nothing : Reply
  done : Reply
  told : ℕ → Reply
  refused : SpaceError → Reply

-- an entry that is available under a claim
pub record IsHad (w : SpaceValue) (claim : Claim) (template : List PatternValue) (e : Entry) : Type 0 where
  pub stands : Contains w.entries e
  pub can : can_be_had claim w.moment template e ≡ true

-- no entry is available under a claim
abbrev pub NothingHad : SpaceValue → Claim → List PatternValue → Type 0
NothingHad w claim template = All (λ e. can_be_had claim w.moment template e ≡ false) w.entries

-- the entry of a number exists, with a live lease
abbrev pub is_live_number : SpaceValue → ℕ → Bool
is_live_number w number = list_any (λ e. (e.number == number) && is_live w.moment e.end) w.entries

-- From old, the space may give this reply to the call and lead to new.
abbrev pub Step : SpaceValue → Event → Reply → SpaceValue → Type 0
Step old (out tuple lease) (given number) new =
    (old.last < most) × (number ≡ old.last + 1) × (new ≡ put old tuple lease)
Step old (out tuple lease) (refused Exhausted) new = (most ≤ old.last) × (new ≡ old)
Step old (out tuple lease) (refused OutOfMemory) new = (old.last < most) × (new ≡ old)
Step old (inp template) (got number tuple) new =
    (e : Entry) × IsHad old Take template e × (number ≡ e.number) × (tuple ≡ e.tuple) × (new ≡ with_entries old (without e.number old.entries))
Step old (inp template) nothing new = NothingHad old Take template × (new ≡ old)
Step old (rdp template) (got number tuple) new =
    (e : Entry) × IsHad old Read template e × (number ≡ e.number) × (tuple ≡ e.tuple) × (new ≡ old)
Step old (rdp template) nothing new = NothingHad old Read template × (new ≡ old)
Step old (rdp template) (refused OutOfMemory) new = ((e : Entry) × IsHad old Read template e) × (new ≡ old)
Step old (renew number lease) done new =
    (is_live_number old number ≡ true) × (new ≡ with_entries old (changed number (with_end (granted old.moment lease)) old.entries))
Step old (renew number lease) (refused NotThere) new = (is_live_number old number ≡ false) × (new ≡ old)
Step old (advance moment) done new = (moment ≤ most) × (new ≡ advanced moment old)
Step old (advance moment) (refused Exhausted) new = (most < moment) × (new ≡ old)
Step old (count template) (told number) new = (number ≡ count_by (is_counted old.moment template) old.entries) × (new ≡ old)
Step old now (told moment) new = (moment ≡ old.moment) × (new ≡ old)
-- no other reply is given
Step _ _ _ _ = ⊥

-- the reply of a result
abbrev pub out_reply : Result ℕ (SpaceError × List FieldValue) → Reply
out_reply (Ok number) = given number
out_reply (Err back) = refused back.0

-- likewise for `inp`: an entry taken, or nothing
abbrev pub inp_reply : Option (ℕ × List FieldValue) → Reply
inp_reply (Some found) = got found.0 found.1
inp_reply None = nothing

-- likewise for `rdp`, which may also be refused
abbrev pub rdp_reply : Result (Option (ℕ × List FieldValue)) SpaceError → Reply
rdp_reply (Ok (Some found)) = got found.0 found.1
rdp_reply (Ok None) = nothing
rdp_reply (Err error) = refused error

-- likewise for a call that returns nothing
abbrev pub done_reply : Result (Unit {0}) SpaceError → Reply
done_reply (Ok _) = done
done_reply (Err error) = refused error
