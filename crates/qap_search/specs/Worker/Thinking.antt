-- The outcome of a worker's evaluation.
use Rattle.std.specs.Prelude.{◌≡◌, ◌⊎◌, ◌==◌, ℕ, Bool, true, false, find, Some}
use Rattle.qap_cost.specs.Instance.{Problem}
use Rattle.space_txn.specs.Txn.{TxnValue}
use Rattle.space_txn.specs.declared.mark.Mark.{Mark}
use Rattle.qap_search.specs.Worker.Hand.{HandValue}
use Rattle.qap_search.specs.Tuples.Piece.{node_tuple}
use Rattle.qap_search.specs.Node.Thought.{IsThought, ThoughtValue, thought_on}
use Rattle.qap_search.specs.declared.worker.stage.Stage.TheVariants.{Taken, Considered, GivingUp}
use Rattle.qap_search.specs.declared.node.thought.Thought.{Thought}

-- the value is that of an evaluation of the node
pub record IsWorkedOut (I : Problem) (v : ThoughtValue) : Type 0 where
  pub thought : Thought
  pub right : IsThought I v.node thought
  pub told : v ≡ thought_on v.node thought

-- the node of the entry that was taken, which is permanent, has been evaluated; its last evaluation is kept
pub record IsConsidered (old new : HandValue) (t : TxnValue) (mark : Mark) : Type 0 where
  pub permanent : mark.permanent ≡ true
  pub last : ThoughtValue
  pub is : mark.tuple ≡ node_tuple last.node
  pub thought : IsWorkedOut old.instance last
  pub kept : (before : ThoughtValue) → old.last ≡ Some before → before.node ≡ last.node → before ≡ last
  pub leaves : new ≡ record old { stage = Considered t; last = Some last }

-- the entry's lease ends
pub record IsLeased (old new : HandValue) (t : TxnValue) (mark : Mark) : Type 0 where
  pub leased : mark.permanent ≡ false
  pub leaves : new ≡ record old { stage = GivingUp t }

-- an evaluation of the entry that was taken: its node is evaluated, or its lease ends and it is given up
pub record Thinks (old new : HandValue) : Type 0 where
  pub t : TxnValue
  pub number : ℕ
  pub stage : old.stage ≡ Taken t number
  pub mark : Mark
  pub here : find (λ m. m.entry == number) t.marks ≡ Some mark
  pub leads : IsConsidered old new t mark ⊎ IsLeased old new t mark
