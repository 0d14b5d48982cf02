-- The effect of a script's commands: steps of the space with transactions.
use Rattle.std.specs.Prelude.{◌≡◌, ◌≢◌, ◌≤◌, ℕ, ◌⊎◌, true, false, List, [], ◌∷◌, ◌++◌, All, filter, remove, slice_get, slice_set, Some, None, Ok, Err}
use Rattle.tuple_match.specs.FieldValue.{FieldValue}
use Rattle.tuple_space.specs.Step as space
use Rattle.tuple_space.specs.declared.lease.Lease.{Lease}
use Rattle.tuple_space.specs.declared.error.SpaceError.TheVariants.{Exhausted as numbers_used_up}
use Rattle.space_txn.specs.Machine.{Answer, Call, Step, BeginStep, AdvanceStep, inp_in, rdp_in, renew_txn, commit, abort, found, nothing, done, refused}
use Rattle.space_txn.specs.Txn.{TxnValue, found_tuple}
use Rattle.space_txn.specs.World.{World, opening, with_space, is_live_transaction}
use Rattle.space_txn.specs.declared.error.TxnError.{TxnError}
use Rattle.space_txn.specs.declared.error.TxnError.TheVariants.{Expired, Foreign, Exhausted, OutOfMemory}
use Rattle.space_script.specs.declared.command.Command.{Command}
use Rattle.space_script.specs.declared.command.Command.TheVariants.{Out, Inp, Rdp, Begin, Renew, Commit, Abort, Advance}
use Rattle.space_script.specs.declared.reply.Reply.{Reply}
use Rattle.space_script.specs.declared.reply.Reply.TheVariants.{Done, Begun, Got, Nothing, Refused}

-- a space, and the values of the transactions of a script
pub record SessionValue : Type 0 where
  pub world : World
  pub kept : List TxnValue

-- the session of a world with these transactions
abbrev pub session_of : World → List TxnValue → SessionValue
session_of world kept = record { world = world; kept = kept }

-- nothing has happened yet
abbrev pub start : SessionValue
start = session_of opening []

-- what holds for every session: its transactions were begun in its world, and are live there
abbrev pub IsGoing : World → TxnValue → Type 0
IsGoing w t = (t.number ≤ w.begun) × (is_live_transaction w t.number ≡ true)

-- each transaction of a session was begun in its world and is live there
abbrev pub IsSession : SessionValue → Type 0
IsSession s = All (IsGoing s.world) s.kept

-- no transaction that continues in a world has ended in another one
abbrev pub KeepsGoing : World → World → Type 0
KeepsGoing old new = (t : TxnValue) → IsGoing old t → IsGoing new t

-- a transaction of this number is at this position among those of the session
pub record StandsAt (kept : List TxnValue) (number place : ℕ) (t : TxnValue) : Type 0 where
  pub there : slice_get kept place ≡ Some t
  pub named : t.number ≡ number

-- the session has no transaction of this number
abbrev pub NoneKept : List TxnValue → ℕ → Type 0
NoneKept kept number = All (λ (t : TxnValue). t.number ≢ number) kept

-- the transactions that are live in a world
abbrev pub live_of : World → List TxnValue → List TxnValue
live_of w kept = filter (λ t. is_live_transaction w t.number) kept

-- how the space's reply to a call outside all transactions is formatted
abbrev pub Tells : space.Reply → Reply → Type 0
Tells (space.given number) Done = Unit {0}
Tells (space.got number tuple) (Got told) = told ≡ tuple
Tells space.nothing Nothing = Unit {0}
Tells space.done Done = Unit {0}
Tells (space.refused numbers_used_up) (Refused number) = number ≡ 33
Tells _ _ = ⊥

-- a call outside all transactions
pub record Outside (old : World) (event : space.Event) (reply : Reply) (new : World) : Type 0 where
  pub answer : space.Reply
  pub step : space.Step old.space event answer new.space
  pub rest : new ≡ with_space old new.space
  pub told : Tells answer reply

-- how the refusal of a call on a transaction is formatted
abbrev pub TellsRefusal : TxnError → ℕ → Type 0
TellsRefusal Expired number = number ≡ 31
TellsRefusal Foreign number = number ≡ 32
TellsRefusal Exhausted number = number ≡ 33
TellsRefusal OutOfMemory number = ⊥

-- the reply is a refusal with the number of this error
abbrev pub IsRefusedReply : TxnError → Reply → Type 0
IsRefusedReply error (Refused number) = TellsRefusal error number
IsRefusedReply error _ = ⊥

-- how the answer to a call on a transaction is formatted
abbrev pub TellsAnswer : TxnValue → Answer → Reply → Type 0
TellsAnswer t (found what) (Got tuple) = found_tuple t what ≡ Some tuple
TellsAnswer t nothing Nothing = Unit {0}
TellsAnswer t done Done = Unit {0}
TellsAnswer t (refused error) reply = IsRefusedReply error reply
TellsAnswer _ _ _ = ⊥

-- a lookup or a renewal under the transaction at a position, where its new value is stored
pub record Calls (call : Call) (old : SessionValue) (place : ℕ) (t : TxnValue) (reply : Reply) (new : SessionValue) : Type 0 where
  pub answer : Answer
  pub after : TxnValue
  pub step : Step old.world t call answer new.world after
  pub told : TellsAnswer after answer reply
  pub stands : new.kept ≡ slice_set old.kept place after

-- a commit or an abort of the transaction at a position: it is spent if that is done, else kept
abbrev pub left_by : Answer → TxnValue → List TxnValue
left_by done t = []
left_by _ t = t ∷ []

-- a commit or an abort of the transaction at a position: what is left of it is last among those of the session
pub record Ends (call : Call) (old : SessionValue) (place : ℕ) (t : TxnValue) (reply : Reply) (new : SessionValue) : Type 0 where
  pub answer : Answer
  pub step : Step old.world t call answer new.world t
  pub told : TellsAnswer t answer reply
  pub left : new.kept ≡ remove old.kept place ++ left_by answer t

-- a transaction's value with one more write
abbrev pub with_write : TxnValue → List FieldValue → Lease → TxnValue
with_write t tuple lease = record t { writes = t.writes ++ record { tuple = tuple; lease = lease; taken = false } ∷ [] }

-- a write under the transaction at a position, which is live
pub record Writes (tuple : List FieldValue) (lease : Lease) (old : SessionValue) (place : ℕ) (t : TxnValue) (reply : Reply) (new : SessionValue) : Type 0 where
  pub live : is_live_transaction old.world t.number ≡ true
  pub told : reply ≡ Done
  pub world : new.world ≡ old.world
  pub stands : new.kept ≡ slice_set old.kept place (with_write t tuple lease)

-- a call under a transaction of this number; if there is none, it is refused with 31
abbrev pub Under : SessionValue → ℕ → (SessionValue → ℕ → TxnValue → Reply → SessionValue → Type 0) → Reply → SessionValue → Type 0
Under old number P reply new =
    (NoneKept old.kept number × (reply ≡ Refused 31) × (new ≡ old))
    ⊎ ((place : ℕ) × (t : TxnValue) × StandsAt old.kept number place t × P old place t reply new)

-- a transaction begun; it is kept if it is live
abbrev pub Begins : SessionValue → ℕ → Reply → SessionValue → Type 0
Begins old asked (Begun number) new = (t : TxnValue) × BeginStep old.world asked (Ok t) new.world × (t.number ≡ number) × (new.kept ≡ live_of new.world (old.kept ++ t ∷ []))
Begins old asked (Refused number) new = BeginStep old.world asked (Err Exhausted) new.world × (number ≡ 33) × (new.kept ≡ old.kept)
Begins _ _ _ _ = ⊥

-- the moment advanced
pub record Advances (old : World) (moment : ℕ) (reply : Reply) (new : World) : Type 0 where
  pub answer : space.Reply
  pub step : AdvanceStep old moment answer new
  pub told : Tells answer reply

-- a call outside all transactions leaves those of the session unchanged
abbrev pub OutsideAll : SessionValue → space.Event → Reply → SessionValue → Type 0
OutsideAll old event reply new = Outside old.world event reply new.world × (new.kept ≡ old.kept)

-- From old, a command may be answered with this reply and lead to new.
abbrev pub Performs : SessionValue → Command → Reply → SessionValue → Type 0
Performs old (Out None lease tuple) reply new = OutsideAll old (space.out tuple lease) reply new
Performs old (Out (Some number) lease tuple) reply new = Under old number (Writes tuple lease) reply new
Performs old (Inp None template) reply new = OutsideAll old (space.inp template) reply new
Performs old (Inp (Some number) template) reply new = Under old number (Calls (inp_in template)) reply new
Performs old (Rdp None template) reply new = OutsideAll old (space.rdp template) reply new
Performs old (Rdp (Some number) template) reply new = Under old number (Calls (rdp_in template)) reply new
Performs old (Begin asked) reply new = Begins old asked reply new
Performs old (Renew number asked) reply new = Under old number (Calls (renew_txn asked)) reply new
Performs old (Commit number) reply new = Under old number (Ends commit) reply new
Performs old (Abort number) reply new = Under old number (Ends abort) reply new
Performs old (Advance moment) reply new = Advances old.world moment reply new.world × (new.kept ≡ live_of new.world old.kept)
