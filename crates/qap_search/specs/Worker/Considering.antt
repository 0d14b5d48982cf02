-- A worker's evaluation of the node that it took.
use Rattle.std.specs.Prelude.{◌≡◌, ◌==◌, ℕ, Bool, true, false, find, Option, Some, None, IfSome, Result, Ok, Err}
use Rattle.std.specs.declared.alloc.AllocError.{AllocError}
use Rattle.qap_cost.specs.Instance.{Problem}
use Rattle.qap_cost.specs.Placement.{Placement, IsPlacement}
use Rattle.space_txn.specs.Txn.{TxnValue}
use Rattle.space_txn.specs.declared.mark.Mark.{Mark}
use Rattle.qap_search.specs.Tuples.Found.{IsOpenNode}
use Rattle.qap_search.specs.Tuples.Piece.{node_tuple}
use Rattle.qap_search.specs.Worker.Standing.{IsLastThought}
use Rattle.qap_search.specs.declared.worker.stage.LastThought.{LastThought}
use Rattle.qap_search.specs.declared.worker.stage.Stage.{Stage}
use Rattle.qap_search.specs.declared.worker.stage.Stage.TheVariants.{Taken, Considered, GivingUp}

-- the transaction has marked this entry, whose tuple is that of the open node x of size n and permanent
pub record IsNodeAt (n number : ℕ) (t : TxnValue) (x : Placement) : Type 0 where
  pub mark : Mark
  pub here : find (λ m. m.entry == number) t.marks ≡ Some mark
  pub permanent : mark.permanent ≡ true
  pub is : mark.tuple ≡ node_tuple x
  pub placement : IsPlacement x
  pub size : x.size ≡ n

-- if it has marked this entry, its tuple has a lease that ends or is not that of an open node of size n
abbrev pub HasNoNode : ℕ → ℕ → TxnValue → Type 0
HasNoNode n number t = (mark : Mark) → find (λ m. m.entry == number) t.marks ≡ Some mark → mark.permanent ≡ true → IsOpenNode n mark.tuple → ⊥

-- the last evaluation is of x
abbrev pub IsOnNode : Option LastThought → Placement → Type 0
IsOnNode None x = ⊥
IsOnNode (Some l) x = l.node ≡ x

-- x has been evaluated; if the last evaluation was of x, it is kept
pub record IsThoughtOn (I : Problem) (x : Placement) (old new : Option LastThought) : Type 0 where
  pub last : LastThought
  pub is : new ≡ Some last
  pub node : last.node ≡ x
  pub right : IfSome old (IsLastThought I) → IsLastThought I last
  pub kept : (before : LastThought) → old ≡ Some before → before.node ≡ x → before ≡ last

-- the outcome of an evaluation that was due: whether the node was evaluated
abbrev pub Considers : Problem → Stage → Option LastThought → Result Bool AllocError → Option LastThought → Type 0
Considers I (Taken t number) old (Ok true) new = (x : Placement) × IsNodeAt I.size number t x × IsThoughtOn I x old new
Considers I (Taken t number) old (Ok false) new = HasNoNode I.size number t × (new ≡ old)
Considers I stage old (Err error) new = new ≡ old
Considers I stage old told new = Unit {0}

-- the state of a worker after an evaluation that was due: by whether the node was evaluated
abbrev pub stage_after : Bool → TxnValue → Stage
stage_after true t = Considered t
stage_after false t = GivingUp t
