-- The possible answers to a call and its effects: the rules of the space with transactions.
-- It is not specified which of several available tuples is found.
use Rattle.std.specs.Prelude.{◌≡◌, ◌≢◌, ℕ, ◌+◌, ◌<◌, ◌≤◌, ◌==◌, ◌⊎◌, true, false, List, [], All, is_some, find, length, Option, Some, None, Result, Ok, Err, if◌then◌else◌}
use Rattle.std.specs.List.{HoldsAt}
use Rattle.tuple_match.specs.PatternValue.{PatternValue}
use Rattle.tuple_space.specs.Rows.{changed}
use Rattle.tuple_space.specs.Space.{SpaceValue, most, with_entries, held_by, without_taken}
use Rattle.tuple_space.specs.Step.{IsHad, NothingHad}
use Rattle.tuple_space.specs.Step as space
use Rattle.tuple_space.specs.Writes.{put_count, put_each, taken_at}
use Rattle.tuple_space.specs.declared.entry.Claim.{Claim}
use Rattle.tuple_space.specs.declared.entry.Claim.TheVariants.{Read, TakeBy}
use Rattle.tuple_space.specs.declared.entry.Entry.{Entry}
use Rattle.tuple_space.specs.declared.error.SpaceError.TheVariants.{Exhausted as moments_used_up}
use Rattle.tuple_space.specs.declared.write.Write.{Write}
use Rattle.space_txn.specs.declared.error.TxnError.{TxnError}
use Rattle.space_txn.specs.declared.error.TxnError.TheVariants.{Expired, Foreign, Exhausted, OutOfMemory}
use Rattle.space_txn.specs.declared.mark.Mark.{Mark}
use Rattle.space_txn.specs.declared.txn.Found.{Found}
use Rattle.space_txn.specs.declared.txn.Found.TheVariants.{Entry as Stored, Own}
use Rattle.space_txn.specs.Live.{others, unmarked}
use Rattle.space_txn.specs.Marks.{marks_of}
use Rattle.space_txn.specs.Txn.{TxnValue, txn_of, is_open_write}
use Rattle.space_txn.specs.World.{World, world_of, with_space, is_live_transaction, begin_at, renew_at, abort_at, advance_at}

-- the value is that of a live transaction of this world: its number is live, and its marks are the world's
pub record IsAccepted (w : World) (t : TxnValue) : Type 0 where
  pub live : is_live_transaction w t.number ≡ true
  pub own : t.marks ≡ marks_of t.number w.space.entries

-- otherwise it is refused: 31 if its number is not live, and 32 if it is but its marks are not the world's
abbrev pub IsRefused : World → TxnValue → TxnError → Type 0
IsRefused w t Expired = is_live_transaction w t.number ≡ false
IsRefused w t Foreign = (is_live_transaction w t.number ≡ true) × (t.marks ≢ marks_of t.number w.space.entries)
IsRefused w t Exhausted = ⊥
IsRefused w t OutOfMemory = ⊥

-- the calls on a transaction
pub data Call : Type 0 where
  inp_in : List PatternValue → Call
  rdp_in : List PatternValue → Call
  renew_txn : ℕ → Call
  commit : Call
  abort : Call

-- the answers to them
pub data Answer : Type 0 where
  found : Found → Answer
  nothing : Answer
  done : Answer
  refused : TxnError → Answer

-- no write is left that matches a template
abbrev pub NoOpenWrite : List PatternValue → List Write → Type 0
NoOpenWrite template writes = All (λ x. is_open_write template x ≡ false) writes

-- such a write is at a position
abbrev pub IsOpenWriteAt : List PatternValue → List Write → ℕ → Type 0
IsOpenWriteAt template writes place = (place < length writes) × HoldsAt (λ x. is_open_write template x ≡ true) writes place

-- what was found is such a write
abbrev pub IsOwnFound : List PatternValue → List Write → Found → Type 0
IsOwnFound template writes (Own place) = IsOpenWriteAt template writes place
IsOwnFound template writes (Stored number) = ⊥

-- its position
abbrev pub own_place : Found → ℕ
own_place (Own place) = place
own_place (Stored number) = 0

-- the space after a transaction took an entry, or read it
abbrev pub taken_space : SpaceValue → ℕ → ℕ → SpaceValue
taken_space s holder entry = with_entries s (changed entry (held_by holder true) s.entries)

-- an entry that the transaction read before keeps its mark
abbrev pub read_space : SpaceValue → ℕ → List Mark → ℕ → SpaceValue
read_space s holder marks entry =
    if is_some (find (λ m. m.entry == entry) marks) then s else with_entries s (changed entry (held_by holder false) s.entries)

-- a transaction's value with the marks that it has in a space
abbrev pub with_marks : TxnValue → SpaceValue → TxnValue
with_marks t s = txn_of t.number (marks_of t.number s.entries) t.writes

-- the world after a commit: what was written is added, what was taken is removed, the marks are dropped
abbrev pub committed_space : SpaceValue → ℕ → List Write → SpaceValue
committed_space s number writes =
    unmarked number (with_entries (put_each s writes) (without_taken number (put_each s writes).entries))

-- the same with the transaction no longer live, and one more commit counted
abbrev pub commit_at : World → TxnValue → World
commit_at w t = world_of (committed_space w.space t.number t.writes) (others t.number w.live) w.begun (w.commits + 1)

-- the commits and the numbers of entries suffice for a commit, or not
abbrev pub HasNumbers : World → List Write → Type 0
HasNumbers w writes = (w.commits < most) × (w.space.last + put_count writes ≤ most)

-- the commits or the numbers of entries do not suffice for a commit
abbrev pub UsedUp : World → List Write → Type 0
UsedUp w writes = (most ≤ w.commits) ⊎ (most < w.space.last + put_count writes)

-- some available entry has no mark of the transaction yet: only a new mark needs memory
abbrev pub HasUnmarked : World → TxnValue → Claim → List PatternValue → Type 0
HasUnmarked w t claim template = (e : Entry) × IsHad w.space claim template e × (is_some (find (λ m. m.entry == e.number) t.marks) ≡ false)

-- refusals, from left to right: a commit's, those of a call that takes memory, and those of others
abbrev pub IsCommitRefusal : World → TxnValue → TxnError → Type 0
IsCommitRefusal w t Exhausted = IsAccepted w t × UsedUp w t.writes
IsCommitRefusal w t OutOfMemory = IsAccepted w t × HasNumbers w t.writes × (0 < put_count t.writes)
IsCommitRefusal w t Expired = IsRefused w t Expired
IsCommitRefusal w t Foreign = IsRefused w t Foreign

-- a lookup's refusal: memory runs out only if some available entry has no mark yet
abbrev pub IsFindRefusal : World → TxnValue → Claim → List PatternValue → TxnError → Type 0
IsFindRefusal w t claim template OutOfMemory = IsAccepted w t × HasUnmarked w t claim template
IsFindRefusal w t claim template Exhausted = ⊥
IsFindRefusal w t claim template Expired = IsRefused w t Expired
IsFindRefusal w t claim template Foreign = IsRefused w t Foreign

-- From old, with a transaction's value, the world may give this answer and lead to new, with that value. If a commit or
-- an abort is done, the value is spent.
abbrev pub Step : World → TxnValue → Call → Answer → World → TxnValue → Type 0
Step old t (inp_in template) (found (Stored number)) new t' =
    IsAccepted old t × (e : Entry) × IsHad old.space (TakeBy t.number) template e × (number ≡ e.number)
    × (new ≡ with_space old (taken_space old.space t.number number)) × (t' ≡ with_marks t (taken_space old.space t.number number))
Step old t (inp_in template) (found (Own place)) new t' =
    IsAccepted old t × NothingHad old.space (TakeBy t.number) template × IsOpenWriteAt template t.writes place
    × (new ≡ old) × (t' ≡ txn_of t.number t.marks (taken_at place t.writes))
Step old t (inp_in template) nothing new t' =
    IsAccepted old t × NothingHad old.space (TakeBy t.number) template × NoOpenWrite template t.writes × (new ≡ old) × (t' ≡ t)
Step old t (inp_in template) (refused error) new t' = IsFindRefusal old t (TakeBy t.number) template error × (new ≡ old) × (t' ≡ t)
Step old t (rdp_in template) (found (Stored number)) new t' =
    IsAccepted old t × (e : Entry) × IsHad old.space Read template e × (number ≡ e.number)
    × (new ≡ with_space old (read_space old.space t.number t.marks number)) × (t' ≡ with_marks t (read_space old.space t.number t.marks number))
Step old t (rdp_in template) (found (Own place)) new t' =
    IsAccepted old t × NothingHad old.space Read template × IsOpenWriteAt template t.writes place × (new ≡ old) × (t' ≡ t)
Step old t (rdp_in template) nothing new t' =
    IsAccepted old t × NothingHad old.space Read template × NoOpenWrite template t.writes × (new ≡ old) × (t' ≡ t)
Step old t (rdp_in template) (refused error) new t' = IsFindRefusal old t Read template error × (new ≡ old) × (t' ≡ t)
Step old t (renew_txn asked) done new t' = IsAccepted old t × (new ≡ renew_at old t.number asked) × (t' ≡ t)
Step old t (renew_txn asked) (refused error) new t' = IsRefused old t error × (new ≡ old) × (t' ≡ t)
Step old t commit done new t' = IsAccepted old t × HasNumbers old t.writes × (new ≡ commit_at old t)
Step old t commit (refused error) new t' = IsCommitRefusal old t error × (new ≡ old) × (t' ≡ t)
Step old t abort done new t' = IsAccepted old t × (new ≡ abort_at old t.number)
Step old t abort (refused error) new t' = IsRefused old t error × (new ≡ old) × (t' ≡ t)
-- no other answer is given
Step _ _ _ _ _ _ = ⊥

-- a transaction begun, or why not
abbrev pub BeginStep : World → ℕ → Result TxnValue TxnError → World → Type 0
BeginStep old asked (Ok t) new = (old.begun < most) × (t ≡ txn_of (old.begun + 1) [] []) × (new ≡ begin_at old asked)
BeginStep old asked (Err Exhausted) new = (most ≤ old.begun) × (new ≡ old)
BeginStep old asked (Err OutOfMemory) new = (old.begun < most) × (new ≡ old)
BeginStep old asked (Err Expired) new = ⊥
BeginStep old asked (Err Foreign) new = ⊥

-- the moment advanced, or why not
abbrev pub AdvanceStep : World → ℕ → space.Reply → World → Type 0
AdvanceStep old moment space.done new = (moment ≤ most) × (new ≡ advance_at old moment)
AdvanceStep old moment (space.refused moments_used_up) new = (most < moment) × (new ≡ old)
AdvanceStep _ _ _ _ = ⊥

-- the answer of a result
abbrev pub find_answer : Result (Option Found) TxnError → Answer
find_answer (Ok (Some what)) = found what
find_answer (Ok None) = nothing
find_answer (Err error) = refused error

-- the answer of the result of a renewal
abbrev pub renew_answer : Result (Unit {0}) TxnError → Answer
renew_answer (Ok _) = done
renew_answer (Err error) = refused error

-- the answer of the result of a commit or an abort
abbrev pub end_answer : {A : Type 0} → Result A (TxnError × TxnValue) → Answer
end_answer (Ok _) = done
end_answer (Err back) = refused back.0
