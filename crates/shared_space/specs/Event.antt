-- The requests of a worker to a room, and the answers of a single-threaded space.
use Rattle.std.specs.Prelude.{◌≡◌, ℕ, Bool, List, Result, Ok, Err}
use Rattle.tuple_match.specs.PatternValue.{PatternValue}
use Rattle.tuple_space.specs.Step as space
use Rattle.space_txn.specs.Machine.{Answer, Call, Step, BeginStep, AdvanceStep, done, refused}
use Rattle.space_txn.specs.Txn.{TxnValue}
use Rattle.space_txn.specs.declared.error.TxnError.{TxnError}
use Rattle.shared_space.specs.Place.{Place, is_to_close}
use Rattle.shared_space.specs.declared.error.CommitError.{CommitError}
use Rattle.shared_space.specs.declared.error.CommitError.TheVariants.{Limit, Txn}

-- the beginning of a transaction; a call on a transaction; advancing the moment; closing the space if no entry matches;
-- asking whether it is closed
pub data Event : Type 0 where
  begin : ℕ → Event
  call : TxnValue → Call → Event
  advance : ℕ → Event
  close : List PatternValue → Event
  ask : Event

-- the answers; one to a call on a transaction also has the transaction's value, unless a limit forbids the commit
pub data Reply : Type 0 where
  begun : Result TxnValue TxnError → Reply
  answered : Answer → TxnValue → Reply
  limited : Reply
  moved : space.Reply → Reply
  told : Bool → Reply

-- why a transaction's commit is refused, as a reply
abbrev pub commit_refusal : TxnValue → CommitError → Reply
commit_refusal t Limit = limited
commit_refusal t (Txn error) = answered (refused error) t

-- the answer to a transaction's commit
abbrev pub commit_reply : TxnValue → Result (Unit {0}) (CommitError × TxnValue) → Reply
commit_reply t (Ok _) = answered done t
commit_reply t (Err back) = commit_refusal t back.0

-- From old, the space may give this reply to the event and go on to new.
abbrev pub Did : Place → Event → Reply → Place → Type 0
Did old (begin asked) (begun result) new = BeginStep old.world asked result new.world × (new ≡ record old { world = new.world })
Did old (call t c) (answered answer t') new = Step old.world t c answer new.world t' × (new ≡ record old { world = new.world })
Did old (advance moment) (moved reply) new = AdvanceStep old.world moment reply new.world × (new ≡ record old { world = new.world })
Did old (close template) (told answer) new = (answer ≡ is_to_close old template) × (new ≡ record old { closed = answer })
Did old ask (told answer) new = (answer ≡ old.closed) × (new ≡ old)
-- no other reply is given; a single-threaded space has no limit
Did _ _ _ _ = ⊥
