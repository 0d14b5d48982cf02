-- A worker's step: one call on the room, and the worker's state after each reply.
use Rattle.std.specs.Prelude.{◌≡◌, ◌⊎◌, ℕ, ◌+◌, ◌-◌, ◌^◌, min, ◌==◌, Bool, true, false, List, find, length, ℤ, ◌<ℤ◌, Option, Some, Result, Ok, Err, IsErr}
use Rattle.std.specs.declared.alloc.AllocError.{AllocError}
use Rattle.space_txn.specs.Content.{SameItems, added_of}
use Rattle.space_txn.specs.Machine.{Answer, Call, found, nothing, done, refused, inp_in, rdp_in, commit, abort}
use Rattle.space_txn.specs.Txn.{TxnValue, found_tuple}
use Rattle.space_txn.specs.declared.error.TxnError.{TxnError}
use Rattle.space_txn.specs.declared.error.TxnError.TheVariants.{Expired, Foreign, Exhausted, OutOfMemory}
use Rattle.space_txn.specs.declared.mark.Mark.{Mark}
use Rattle.space_txn.specs.declared.txn.Found.TheVariants.{Entry as Stored, Own}
use Rattle.shared_space.specs.Event.{Event, Reply, begin, begun, call, answered, commit_reply}
use Rattle.shared_space.specs.declared.error.CommitError.{CommitError}
use Rattle.shared_space.specs.declared.error.CommitError.TheVariants.{Limit, Txn}
use Rattle.qap_cost.specs.Instance.{Problem}
use Rattle.tuple_match.specs.FieldValue.{FieldValue}
use Rattle.qap_search.specs.Node.Decision.{DecidesBeside, DecidesBy, IsBetterOf}
use Rattle.qap_search.specs.Tuples.Found.{best_template}
use Rattle.qap_search.specs.Worker.Hand.{HandValue, hand_of, is_hopeful}
use Rattle.qap_search.specs.Tuples.Piece.{node_template}
use Rattle.qap_search.specs.Law.Replacement.{Best, tuple_of}
use Rattle.qap_search.specs.Node.Thought.{ThoughtValue}
use Rattle.qap_search.specs.declared.worker.stage.Outcome.{Outcome}
use Rattle.qap_search.specs.declared.worker.stage.Stage.{Stage}
use Rattle.qap_search.specs.declared.worker.stage.Stage.TheVariants.{Idle, Begun, Taken, Considered, Ready, GivingUp}
use Rattle.qap_search.specs.declared.worker.stage.Tally.{Tally}

-- the report of a step: whether it met no refusal, or memory ran out
abbrev pub Told : Type 0
Told = Result Bool AllocError

-- the result of a commit; a transaction that is refused it is returned
abbrev pub Committed : Type 0
Committed = Result (Unit {0}) (CommitError × TxnValue)

-- the worker's stage changes, and nothing else
abbrev pub moved : HandValue → Stage → HandValue
moved h stage = record h { stage = stage }

-- If its transaction has ended, a worker is idle; after another refusal its stage is unchanged, and its next turn retries
-- the same step.
abbrev pub AfterRefusal : HandValue → Stage → TxnError → Told → HandValue → Type 0
AfterRefusal old stage Expired told new = (told ≡ Ok false) × (new ≡ moved old Idle)
AfterRefusal old stage OutOfMemory told new = IsErr told × (new ≡ moved old stage)
AfterRefusal old stage Foreign told new = (told ≡ Ok false) × (new ≡ moved old stage)
AfterRefusal old stage Exhausted told new = (told ≡ Ok false) × (new ≡ moved old stage)

-- after a begin: the worker has a transaction, or it was refused one and is idle
abbrev pub AfterBegin : HandValue → Result TxnValue TxnError → Told → HandValue → Type 0
AfterBegin old (Ok t) told new = (told ≡ Ok true) × (new ≡ moved old (Begun t))
AfterBegin old (Err error) told new = AfterRefusal old Idle error told new

-- t is the transaction after the call, here and below
abbrev pub AfterNode : HandValue → Answer → TxnValue → Told → HandValue → Type 0
AfterNode old (found (Stored number)) t told new = (told ≡ Ok true) × (new ≡ moved old (Taken t number))
AfterNode old (found (Own place)) t told new = (told ≡ Ok true) × (new ≡ moved old (GivingUp t))
AfterNode old nothing t told new = (told ≡ Ok true) × (new ≡ moved old (GivingUp t))
AfterNode old (refused error) t told new = AfterRefusal old (Begun t) error told new
AfterNode old done t told new = ⊥

-- of the candidate and the incumbent that was found, the incumbent after the commit: if it was taken, the
-- candidate if it costs less, otherwise what was found
abbrev pub IsStanding : Bool → Best → Best → Best → Type 0
IsStanding true candidate best standing = IsBetterOf candidate best standing
IsStanding false candidate best standing = standing ≡ best

-- what is written: the decision on the evaluated node, and if the incumbent was taken the new one
abbrev pub IsWritten : Bool → Problem → Best → ThoughtValue → List (List FieldValue) → Type 0
IsWritten true I standing last tuples = DecidesBeside I standing.cost standing.permutation last tuples
IsWritten false I standing last tuples = DecidesBy I standing.cost last tuples

-- the transaction t with other writes
pub record HasMarksOf (t t' : TxnValue) : Type 0 where
  pub number : t'.number ≡ t.number
  pub marks : t'.marks ≡ t.marks

-- The incumbent was found, and its cost is remembered; the writes that follow from it are ready.
pub record IsReady (taking : Bool) (I : Problem) (last : ThoughtValue) (best : Best) (t : TxnValue) (stage : Stage) : Type 0 where
  pub standing : Best
  pub stands : IsStanding taking last.candidate best standing
  pub tuples : List (List FieldValue)
  pub written : IsWritten taking I standing last tuples
  pub with_writes : TxnValue
  pub same : HasMarksOf t with_writes
  pub added : SameItems (added_of with_writes.writes) tuples
  pub is : stage ≡ Ready with_writes standing.cost

-- Nothing can be written: no facility is free to split on, and the node is not closed.
pub record IsStuck (taking : Bool) (last : ThoughtValue) (best : Best) (t : TxnValue) (stage : Stage) : Type 0 where
  pub standing : Best
  pub stands : IsStanding taking last.candidate best standing
  pub whole : length last.node.facilities ≡ last.node.size
  pub below : last.value <ℤ standing.cost
  pub is : stage ≡ GivingUp t

-- Memory ran out for the writes.
pub record IsShort (t : TxnValue) (stage : Stage) : Type 0 where
  pub with_writes : TxnValue
  pub same : HasMarksOf t with_writes
  pub is : stage ≡ GivingUp with_writes

-- the tuple of the incumbent was found, and it is permanent
pub record HasBest (taking : Bool) (old : HandValue) (number : ℕ) (t : TxnValue) (told : Told) (new : HandValue) : Type 0 where
  pub last : ThoughtValue
  pub thought : old.last ≡ Some last
  pub best : Best
  pub here : found_tuple t (Stored number) ≡ Some (tuple_of best)
  pub stage : Stage
  pub leaves : new ≡ record old { stage = stage; best = Some best.cost }
  pub leads : ((told ≡ Ok true) × (IsReady taking old.instance last best t stage ⊎ IsStuck taking last best t stage)) ⊎ (IsErr told × IsShort t stage)

-- a tuple was found whose lease ends
pub record HasLeased (old : HandValue) (number : ℕ) (t : TxnValue) (told : Told) (new : HandValue) : Type 0 where
  pub mark : Mark
  pub here : find (λ m. m.entry == number) t.marks ≡ Some mark
  pub leased : mark.permanent ≡ false
  pub tells : told ≡ Ok true
  pub leaves : new ≡ moved old (GivingUp t)

-- after the call that looks for the incumbent: the writes are made from it, or the node is given up, or the call
-- was refused
abbrev pub AfterBest : Bool → HandValue → Answer → TxnValue → Told → HandValue → Type 0
AfterBest taking old (found (Stored number)) t told new = HasBest taking old number t told new ⊎ HasLeased old number t told new
AfterBest taking old (found (Own place)) t told new = (told ≡ Ok true) × (new ≡ moved old (GivingUp t))
AfterBest taking old nothing t told new = (told ≡ Ok true) × (new ≡ moved old (GivingUp t))
AfterBest taking old (refused error) t told new = AfterRefusal old (Considered t) error told new
AfterBest taking old done t told new = ⊥

-- one more, saturating at 64 bits
abbrev pub one_more : ℕ → ℕ
one_more n = min (n + 1) (2 ^ 64 - 1)

-- If the limit of commits is reached, the transaction is given up; a commit that came too late is counted.
abbrev pub AfterNoCommit : HandValue → TxnValue → ℤ → CommitError → Told → HandValue → Type 0
AfterNoCommit old t cost Limit told new = (told ≡ Ok false) × (new ≡ moved old (GivingUp t))
AfterNoCommit old t cost (Txn Expired) told new = (told ≡ Ok false) × (new ≡ record old { stage = Idle; refused = one_more old.refused })
AfterNoCommit old t cost (Txn error) told new = AfterRefusal old (Ready t cost) error told new

-- after a commit: it was accepted and is counted, and the incumbent's cost is remembered; or it was not
-- accepted
abbrev pub AfterCommit : HandValue → TxnValue → ℤ → Committed → Told → HandValue → Type 0
AfterCommit old t cost (Ok _) told new =
    (told ≡ Ok true) × (new ≡ record old { stage = Idle; best = Some cost; accepted = old.accepted + 1 })
AfterCommit old t cost (Err back) told new = AfterNoCommit old t cost back.0 told new

-- after an abort: the worker is idle, or the abort was refused
abbrev pub AfterAbort : HandValue → TxnValue → Answer → Told → HandValue → Type 0
AfterAbort old t done told new = (told ≡ Ok true) × (new ≡ moved old Idle)
AfterAbort old t (refused error) told new = AfterRefusal old (GivingUp t) error told new
AfterAbort old t _ told new = ⊥

-- the call that looks for the incumbent
abbrev pub best_call : Bool → Call
best_call true = inp_in best_template
best_call false = rdp_in best_template

-- A step of a worker in this state: `did` says what a call on the room may do.
abbrev pub TurnAt : {R : Type 0} → (R → Event → Reply → R → Type 0) → HandValue → Stage → R → Told → HandValue → R → Type 0
TurnAt did old Idle before told new after =
    (reply : Result TxnValue TxnError) × did before (begin old.lease) (begun reply) after × AfterBegin old reply told new
TurnAt did old (Begun t) before told new after =
    (answer : Answer) × (t' : TxnValue) × did before (call t (inp_in node_template)) (answered answer t') after × AfterNode old answer t' told new
TurnAt did old (Considered t) before told new after =
    (answer : Answer) × (t' : TxnValue) × did before (call t (best_call (is_hopeful old.best old.last))) (answered answer t') after
    × AfterBest (is_hopeful old.best old.last) old answer t' told new
TurnAt did old (Ready t cost) before told new after =
    (committed : Committed) × did before (call t commit) (commit_reply t committed) after × AfterCommit old t cost committed told new
TurnAt did old (GivingUp t) before told new after =
    (answer : Answer) × did before (call t abort) (answered answer t) after × AfterAbort old t answer told new
-- no step comes before the evaluation that is due
TurnAt did old (Taken t number) before told new after = ⊥

-- a step of a worker from its current stage
abbrev pub Turn : {R : Type 0} → (R → Event → Reply → R → Type 0) → HandValue → R → Told → HandValue → R → Type 0
Turn did old before told new after = TurnAt did old old.stage before told new after

-- the same by the parts of a worker: a step from this stage has this outcome
abbrev pub TurnsInto : {R : Type 0} → (R → Event → Reply → R → Type 0) → Problem → ℕ → Option ThoughtValue → Stage → Tally → R → Outcome → R → Type 0
TurnsInto did I lease last stage tally before outcome after =
    Turn did (hand_of I lease last stage tally) before outcome.told (hand_of I lease last outcome.stage outcome.tally) after

-- the same of what follows the call that looks for the incumbent
abbrev pub FindsBest : Bool → Problem → ℕ → ThoughtValue → TxnValue → Tally → Answer → TxnValue → Outcome → Type 0
FindsBest taking I lease last old tally answer t outcome =
    AfterBest taking (hand_of I lease (Some last) (Considered old) tally) answer t outcome.told (hand_of I lease (Some last) outcome.stage outcome.tally)
