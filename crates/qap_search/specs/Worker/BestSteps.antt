-- What a worker's transaction holds once the incumbent was found, and what is written then.
use Rattle.std.specs.Prelude.{◌≡◌, ◌≢◌, ◌==◌, ℕ, Bool, true, List, [], ◌∷◌, ◌++◌, find, length, ℤ, ◌<ℤ◌, Option, Some, None, Result, Ok, Err, IsErr}
use Rattle.std.specs.declared.alloc.AllocError.{AllocError}
use Rattle.qap_cost.specs.Bijection.{IsPerm}
use Rattle.qap_cost.specs.Instance.{Problem}
use Rattle.qap_cost.specs.Placement.{Placement}
use Rattle.space_txn.specs.Content.{SameItems, added_of}
use Rattle.space_txn.specs.Finding.{IsUntaken}
use Rattle.space_txn.specs.Machine.{Answer, found, nothing, done, refused}
use Rattle.space_txn.specs.Marks.{with_mark}
use Rattle.space_txn.specs.Txn.{TxnValue}
use Rattle.space_txn.specs.declared.mark.Mark.{Mark}
use Rattle.space_txn.specs.declared.txn.Found.TheVariants.{Entry as Stored, Own}
use Rattle.tuple_match.specs.FieldValue.{FieldValue}
use Rattle.qap_search.specs.Tuples.DecidedTuples.{best_of}
use Rattle.qap_search.specs.Tuples.Found.{IsBestFound}
use Rattle.qap_search.specs.Tuples.Piece.{node_tuple}
use Rattle.qap_search.specs.Law.Replacement.{Best, tuple_of}
use Rattle.qap_search.specs.Worker.Standing.{HasNode}
use Rattle.qap_search.specs.Node.Thought.{ThoughtValue}
use Rattle.qap_search.specs.Worker.Turn.{HasMarksOf, IsStanding, IsWritten, Told}
use Rattle.qap_search.specs.declared.worker.stage.Stage.{Stage}
use Rattle.qap_search.specs.declared.worker.stage.Stage.TheVariants.{Ready, GivingUp}

-- the transaction has marked this entry, whose tuple is that of an incumbent and permanent
pub record IsBestAt (number : ℕ) (t : TxnValue) (best : Best) : Type 0 where
  pub mark : Mark
  pub here : find (λ m. m.entry == number) t.marks ≡ Some mark
  pub permanent : mark.permanent ≡ true
  pub is : mark.tuple ≡ tuple_of best
  pub permutation : IsPerm best.permutation

-- if it has marked this entry, its tuple has a lease that ends or is not that of an incumbent
abbrev pub HasNoBest : ℕ → TxnValue → Type 0
HasNoBest number t =
    (mark : Mark) → find (λ m. m.entry == number) t.marks ≡ Some mark → mark.permanent ≡ true → (c : ℤ) (ps : List ℤ) → mark.tuple ≢ best_of c ps

-- it has marked this entry, whose tuple states this cost of an incumbent and is permanent
pub record HasBestCost (number : ℕ) (t : TxnValue) (cost : ℤ) : Type 0 where
  pub mark : Mark
  pub here : find (λ m. m.entry == number) t.marks ≡ Some mark
  pub permanent : mark.permanent ≡ true
  pub locations : List ℤ
  pub is : mark.tuple ≡ best_of cost locations

-- it took the tuple of the open node x, which was permanent, and took or read this other entry
pub record HasBestMark (I : Problem) (taking : Bool) (x : Placement) (number : ℕ) (t : TxnValue) : Type 0 where
  pub node : Mark
  pub best : Mark
  pub marks : t.marks ≡ with_mark best (node ∷ [])
  pub untaken : IsUntaken best.entry (node ∷ [])
  pub writes : t.writes ≡ []
  pub node_taken : node.taken ≡ true
  pub node_permanent : node.permanent ≡ true
  pub node_is : node.tuple ≡ node_tuple x
  pub here : find (λ m. m.entry == number) t.marks ≡ Some best
  pub taken : best.taken ≡ taking
  pub best_is : best.permanent ≡ true → IsBestFound I best.tuple

-- what is known about it after the call that looks for the incumbent
abbrev pub IsFoundBest : Problem → Bool → Placement → Answer → TxnValue → Type 0
IsFoundBest I taking x (found (Stored number)) t = HasBestMark I taking x number t
IsFoundBest I taking x (found (Own place)) t = Unit {0}
IsFoundBest I taking x nothing t = Unit {0}
IsFoundBest I taking x (refused error) t = HasNode x t
IsFoundBest I taking x done t = Unit {0}

-- the consequences of the incumbent have been written, and the new incumbent has this cost
pub record WritesAll (taking : Bool) (I : Problem) (last : ThoughtValue) (best : Best) (t t' : TxnValue) (cost : ℤ) : Type 0 where
  pub standing : Best
  pub stands : IsStanding taking last.candidate best standing
  pub costs : standing.cost ≡ cost
  pub tuples : List (List FieldValue)
  pub written : IsWritten taking I standing last tuples
  pub same : HasMarksOf t t'
  pub added : SameItems (added_of t'.writes) (added_of t.writes ++ tuples)

-- nothing can be written: no facility is free to split on, and the node is not closed
pub record WritesNothing (taking : Bool) (last : ThoughtValue) (best : Best) (t t' : TxnValue) : Type 0 where
  pub standing : Best
  pub stands : IsStanding taking last.candidate best standing
  pub whole : length last.node.facilities ≡ last.node.size
  pub below : last.value <ℤ standing.cost
  pub same : t' ≡ t

-- the outcomes of writing: all is written; nothing can be written; or memory ran out, and only the writes may differ
abbrev pub Writes : Bool → Problem → ThoughtValue → Best → TxnValue → TxnValue → Result (Option ℤ) AllocError → Type 0
Writes taking I last best t t' (Ok (Some cost)) = WritesAll taking I last best t t' cost
Writes taking I last best t t' (Ok None) = WritesNothing taking last best t t'
Writes taking I last best t t' (Err error) = HasMarksOf t t'

-- the state of a worker after that
abbrev pub AfterWrites : Result (Option ℤ) AllocError → TxnValue → Told → Stage → Type 0
AfterWrites (Ok (Some cost)) t told stage = (told ≡ Ok true) × (stage ≡ Ready t cost)
AfterWrites (Ok None) t told stage = (told ≡ Ok true) × (stage ≡ GivingUp t)
AfterWrites (Err error) t told stage = IsErr told × (stage ≡ GivingUp t)
