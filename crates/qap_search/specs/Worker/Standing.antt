-- What a worker's transaction holds at each stage of its turn.
use Rattle.std.specs.Prelude.{◌≡◌, ℕ, true, [], ◌∷◌, Option, Some, None, IfSome}
use Rattle.qap_cost.specs.Instance.{Problem, IsInstance}
use Rattle.qap_cost.specs.Placement.{Placement, IsPlacement}
use Rattle.shared_space.specs.Law.{Content, MayCommit}
use Rattle.space_txn.specs.Machine.{Answer, found, nothing, done, refused}
use Rattle.space_txn.specs.Txn.{TxnValue}
use Rattle.space_txn.specs.declared.mark.Mark.{Mark}
use Rattle.space_txn.specs.declared.txn.Found.TheVariants.{Entry as Stored, Own}
use Rattle.qap_search.specs.Tuples.Found.{IsOpenNode, best_template}
use Rattle.qap_search.specs.Worker.Hand.{last_of}
use Rattle.qap_search.specs.Tuples.Piece.{node_template, node_tuple}
use Rattle.qap_search.specs.Law.Replacement.{MayReplace}
use Rattle.qap_search.specs.Worker.Prepared.{HasPrepared}
use Rattle.qap_search.specs.Law.SearchLaw.{IsSearchLaw}
use Rattle.qap_search.specs.Node.Thought.{IsThought, ThoughtValue}
use Rattle.qap_search.specs.declared.worker.job.Job.{Job}
use Rattle.qap_search.specs.declared.worker.prepared.Prepared.{Prepared}
use Rattle.qap_search.specs.declared.worker.stage.LastThought.{LastThought}
use Rattle.qap_search.specs.declared.worker.stage.Stage.{Stage}
use Rattle.qap_search.specs.declared.worker.stage.Tools.{Tools}
use Rattle.qap_search.specs.declared.worker.stage.Stage.TheVariants.{Idle, Begun, Taken, Considered, Ready, GivingUp}

-- it took exactly this entry, whose tuple is an open node's if it is permanent
pub record HasTaken (I : Problem) (t : TxnValue) (number : ℕ) : Type 0 where
  pub mark : Mark
  pub marks : t.marks ≡ mark ∷ []
  pub writes : t.writes ≡ []
  pub entry : mark.entry ≡ number
  pub taken : mark.taken ≡ true
  pub node : mark.permanent ≡ true → IsOpenNode I.size mark.tuple

-- what is known about it after the call that takes an open node's entry
abbrev pub IsFoundNode : Problem → Answer → TxnValue → Type 0
IsFoundNode I (found (Stored number)) t = HasTaken I t number
IsFoundNode I (found (Own place)) t = Unit {0}
IsFoundNode I nothing t = Unit {0}
IsFoundNode I (refused error) t = (t.marks ≡ []) × (t.writes ≡ [])
IsFoundNode I done t = Unit {0}

-- it took the tuple of the open node x, which was permanent, and nothing else
pub record HasNode (x : Placement) (t : TxnValue) : Type 0 where
  pub mark : Mark
  pub marks : t.marks ≡ mark ∷ []
  pub writes : t.writes ≡ []
  pub taken : mark.taken ≡ true
  pub permanent : mark.permanent ≡ true
  pub is : mark.tuple ≡ node_tuple x

-- what holds for the transaction at each stage of a turn
abbrev pub IsStage : Problem → Option ThoughtValue → Stage → Type 0
IsStage I last Idle = Unit {0}
IsStage I last (Begun t) = (t.marks ≡ []) × (t.writes ≡ [])
IsStage I last (Taken t number) = HasTaken I t number
IsStage I None (Considered t) = ⊥
IsStage I (Some last) (Considered t) = HasNode last.node t
IsStage I last (Ready t cost) = MayCommit (MayReplace I) t
IsStage I last (GivingUp t) = Unit {0}

-- the evaluation is correct
pub record IsLastThought (I : Problem) (l : LastThought) : Type 0 where
  pub placement : IsPlacement l.node
  pub size : l.node.size ≡ I.size
  pub thought : IsThought I l.node l.thought

-- what holds for every worker
pub record IsHand (I : Problem) (tools : Tools) (last : Option LastThought) (stage : Stage) : Type 0 where
  pub node : tools.node ≡ node_template
  pub best : tools.best ≡ best_template
  pub instance : IsInstance I
  pub thought : IfSome last (IsLastThought I)
  pub stage_is : IsStage I (last_of last) stage

-- such a worker, on a space that holds the search of its instance
abbrev pub IsSearchHand : (Content → ℕ → Type 0) → (Content → Content → Content → Type 0) → Tools → Option LastThought → Stage → Type 0
IsSearchHand lawful allowed tools last stage = (I : Problem) × IsHand I tools last stage × IsSearchLaw I lawful allowed

-- a worker with what is prepared for its next step, on a space that holds the search of I
pub record IsAtWork (I : Problem) (lawful : Content → ℕ → Type 0) (allowed : Content → Content → Content → Type 0) (tools : Tools) (last : Option LastThought) (prepared : Prepared) (stage : Stage) : Type 0 where
  pub hand : IsHand I tools last stage
  pub ready : HasPrepared I last prepared
  pub law : IsSearchLaw I lawful allowed

-- what holds for each node on which a worker is working
pub record IsJob (I : Problem) (tools : Tools) (j : Job) : Type 0 where
  pub hand : IsHand I tools j.last j.stage
  pub prepared : HasPrepared I j.last j.prepared

-- a worker has no node yet
pub record IsIdle (j : Job) : Type 0 where
  pub stage : j.stage ≡ Idle
  pub last : j.last ≡ None
