-- What a worker's transaction holds at each stage of its turn, and the calls that it makes on the space.
use Rattle.std.specs.Prelude.{◌≡◌, ◌==◌, ◌≤◌, ℕ, ℤ, Bool, true, [], ◌∷◌, List, Some, find, map}
use Rattle.qap_cost.specs.Instance.{Problem}
use Rattle.shared_space.specs.Event.{Event, Reply, begin, call}
use Rattle.shared_space.specs.Law.{Content, MayCommit}
use Rattle.shared_space.specs.Run.{IsAllowedAct, asks}
use Rattle.space_txn.specs.Content.{added_of}
use Rattle.space_txn.specs.Finding.{IsUntaken}
use Rattle.space_txn.specs.Machine.{Answer, found, refused}
use Rattle.space_txn.specs.Marks.{with_mark}
use Rattle.space_txn.specs.Txn.{TxnValue}
use Rattle.space_txn.specs.declared.mark.Mark.{Mark}
use Rattle.space_txn.specs.declared.txn.Found.TheVariants.{Entry as Stored}
use Rattle.subtree_search.specs.Best.{Best, IsIncumbent}
use Rattle.part_search.specs.Ground.{StandFor}
use Rattle.part_search.specs.Replacement.{MayReplace}
use Rattle.part_search.specs.Tuples.{IsReadOf, OpenNode, best_tuple, node_tuple}
use Rattle.part_search.specs.declared.open_node.Open.{Open}
use Rattle.part_search.specs.declared.stage.Stage.{Stage}
use Rattle.part_search.specs.declared.stage.Stage.TheVariants.{Idle, Begun, Taken, Tried, Ready, GivingUp}

-- it took exactly this entry
pub record HasTaken (t : TxnValue) (number : ℕ) : Type 0 where
  pub mark : Mark
  pub marks : t.marks ≡ mark ∷ []
  pub writes : t.writes ≡ []
  pub entry : mark.entry ≡ number
  pub taken : mark.taken ≡ true

-- it has marked this entry, whose tuple is that of an open node of size n and permanent
pub record HasOpen (n : ℕ) (t : TxnValue) (number : ℕ) (o : Open) : Type 0 where
  pub mark : Mark
  pub here : find (λ m. m.entry == number) t.marks ≡ Some mark
  pub permanent : mark.permanent ≡ true
  pub read : IsReadOf n mark.tuple o

-- it has marked this entry, whose tuple is that of a permutation with its cost and permanent
pub record HasBest (I : Problem) (t : TxnValue) (number : ℕ) (b : Best) : Type 0 where
  pub mark : Mark
  pub here : find (λ m. m.entry == number) t.marks ≡ Some mark
  pub permanent : mark.permanent ≡ true
  pub is : best_tuple b ≡ mark.tuple
  pub incumbent : IsIncumbent I b

-- it took the tuple of an open node, which was permanent, and writes open nodes that cover it at c
pub record HasTried (I : Problem) (c : ℤ) (t : TxnValue) : Type 0 where
  pub mark : Mark
  pub marks : t.marks ≡ mark ∷ []
  pub taken : mark.taken ≡ true
  pub permanent : mark.permanent ≡ true
  pub at : OpenNode
  pub is : mark.tuple ≡ node_tuple at
  pub same_size : at.node.size ≡ I.size
  pub opens : List OpenNode
  pub added : added_of t.writes ≡ map node_tuple opens
  pub stand : StandFor I c at opens

-- in addition, it took this entry
pub record HasBoth (I : Problem) (c : ℤ) (number : ℕ) (t : TxnValue) : Type 0 where
  pub before : TxnValue
  pub tried : HasTried I c before
  pub best : Mark
  pub marks : t.marks ≡ with_mark best before.marks
  pub writes : t.writes ≡ before.writes
  pub untaken : IsUntaken best.entry before.marks
  pub taken : best.taken ≡ true
  pub here : find (λ m. m.entry == number) t.marks ≡ Some best

-- what is known about it after the call that takes an open node's entry
abbrev pub IsFoundOpen : Answer → TxnValue → Type 0
IsFoundOpen (found (Stored number)) t = HasTaken t number
IsFoundOpen (refused error) t = (t.marks ≡ []) × (t.writes ≡ [])
IsFoundOpen _ t = Unit {0}

-- and after the one that takes the incumbent's
abbrev pub IsFoundBest : Problem → ℤ → Answer → TxnValue → Type 0
IsFoundBest I c (found (Stored number)) t = HasBoth I c number t
IsFoundBest I c (refused error) t = HasTried I c t
IsFoundBest I c _ t = Unit {0}

-- when the worker's incumbent costs c
abbrev pub IsStage : Problem → ℤ → Stage → Type 0
IsStage I c Idle = Unit {0}
IsStage I c (Begun t) = (t.marks ≡ []) × (t.writes ≡ [])
IsStage I c (Taken t number) = HasTaken t number
IsStage I c (Tried t) = HasTried I c t
IsStage I c (Ready t) = MayCommit (MayReplace I) t
IsStage I c (GivingUp t) = Unit {0}

-- after how many steps at most a worker at this stage has no transaction, unless memory runs out
abbrev pub steps_to_idle : Stage → ℕ
steps_to_idle Idle = 0
steps_to_idle (Begun t) = 2
steps_to_idle (Taken t number) = 1
steps_to_idle (Tried t) = 3
steps_to_idle (Ready t) = 2
steps_to_idle (GivingUp t) = 1

-- what a worker works on: the instance, and the lease in milliseconds with which its transactions begin
pub record Job : Type 0 where
  pub instance : Problem
  pub lease : ℕ

-- the job with these
abbrev pub job_of : Problem → ℕ → Job
job_of I lease = record { instance = I; lease = lease }

-- a worker: its job, and after how many steps at most it has no transaction, unless memory runs out
pub record WorkerValue : Type 0 where
  pub job : Job
  pub to_idle : ℕ

-- it has no transaction
abbrev pub IsIdle : WorkerValue → Type 0
IsIdle w = w.to_idle ≡ 0

-- it has no transaction, or its next step ends it without a commit and takes no memory
abbrev pub IsLeaving : WorkerValue → Type 0
IsLeaving w = w.to_idle ≤ 1

-- a worker with its share: what the share counts, whether the worker has ended, and after how many steps at most it has no
-- transaction
pub record SeatValue : Type 0 where
  pub share : ℕ
  pub ended : Bool
  pub to_idle : ℕ

-- a worker that has ended has no transaction after its next steps
abbrev pub Leaves : SeatValue → SeatValue → Type 0
Leaves old new = old.ended ≡ true → new.to_idle ≡ 0

-- the law of the space allows each commit that replaces an open node of the job's instance, and a transaction's beginning with its lease
pub record Allows (J : Job) (allowed : Content → Content → Content → Type 0) (begins : ℕ → Type 0) : Type 0 where
  pub commits : (gone kept added : Content) → MayReplace J.instance gone kept added → allowed gone kept added
  pub lease : begins J.lease

-- the beginning of a transaction, or a call on one
abbrev pub IsCall : Event → Type 0
IsCall (begin asked) = Unit {0}
IsCall (call t c) = Unit {0}
IsCall _ = ⊥

-- one such call was made on the room; a commit is one that replaces an open node
abbrev pub Made : {R : Type 0} → (R → Event → Reply → R → Type 0) → Problem → R → R → Type 0
Made did I before after =
    (event : Event) × (reply : Reply) × IsCall event × IsAllowedAct (MayReplace I) (λ _. Unit {0}) (Unit {0}) (asks event reply) × did before event reply after

-- what holds for every worker on the instance
pub record IsWorker (I : Problem) (best : Best) (stage : Stage) : Type 0 where
  pub incumbent : IsIncumbent I best
  pub stage_is : IsStage I best.cost stage
