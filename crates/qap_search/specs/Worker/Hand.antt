-- What callers know about a worker of the search: its stage, its last evaluation, and its counts.
use Rattle.std.specs.Prelude.{ℕ, Bool, true, false, ℤ, int_lt, Option, Some, None}
use Rattle.qap_cost.specs.Instance.{Problem}
use Rattle.qap_search.specs.Node.Thought.{ThoughtValue, thought_on}
use Rattle.qap_search.specs.declared.worker.gate.Kind.{Kind}
use Rattle.qap_search.specs.declared.worker.gate.Kind.TheVariants as kinds
use Rattle.qap_search.specs.declared.worker.stage.LastThought.{LastThought}
use Rattle.qap_search.specs.declared.worker.stage.Stage.{Stage}
use Rattle.qap_search.specs.declared.worker.stage.Stage.TheVariants.{Idle, Begun, Taken, Considered, Ready, GivingUp}
use Rattle.qap_search.specs.declared.worker.stage.Tally.{Tally}

-- `best` is the cost of the incumbent that it knows of
pub record HandValue : Type 0 where
  pub instance : Problem
  pub lease : ℕ
  pub last : Option ThoughtValue
  pub stage : Stage
  pub best : Option ℤ
  pub accepted : ℕ
  pub refused : ℕ

-- the node that was evaluated last, with its evaluation
abbrev pub thought_of : LastThought → ThoughtValue
thought_of l = thought_on l.node l.thought

-- likewise, if any node was evaluated
abbrev pub last_of : Option LastThought → Option ThoughtValue
last_of None = None
last_of (Some l) = Some (thought_of l)

-- a worker, from the parts that the code stores
abbrev pub hand_of : Problem → ℕ → Option ThoughtValue → Stage → Tally → HandValue
hand_of I lease last stage tally =
    record { instance = I; lease = lease; last = last; stage = stage; best = tally.best; accepted = tally.accepted; refused = tally.refused }

-- a new worker
abbrev pub new_hand : Problem → ℕ → HandValue
new_hand I lease = record { instance = I; lease = lease; last = None; stage = Idle; best = None; accepted = 0; refused = 0 }

-- an evaluation is due: an open node's entry was taken
abbrev pub is_due : Stage → Bool
is_due (Taken t number) = true
is_due _ = false

-- no cost of an incumbent is known, or the candidate of the last evaluation costs less than that
abbrev pub is_hopeful : Option ℤ → Option ThoughtValue → Bool
is_hopeful None last = true
is_hopeful (Some best) None = false
is_hopeful (Some best) (Some last) = int_lt last.candidate.cost best

-- the kind of the next step, if no evaluation is due
abbrev pub kind_at : Stage → Bool → Kind
kind_at Idle hopeful = kinds.Begin
kind_at (Begun t) hopeful = kinds.TakeNode
kind_at (Taken t number) hopeful = kinds.TakeNode
kind_at (Considered t) true = kinds.TakeBest
kind_at (Considered t) false = kinds.ReadBest
kind_at (Ready t cost) hopeful = kinds.Commit
kind_at (GivingUp t) hopeful = kinds.Abort

-- the kind of a worker's next step, if no evaluation is due
abbrev pub kind_of : HandValue → Kind
kind_of h = kind_at h.stage (is_hopeful h.best h.last)
