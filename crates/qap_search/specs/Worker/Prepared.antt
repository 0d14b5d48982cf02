-- A worker's writes, prepared before it has read the incumbent's cost.
use Rattle.std.specs.Prelude.{List, ℤ, IfSome, Option}
use Rattle.qap_cost.specs.Instance.{Problem}
use Rattle.space_txn.specs.Content.{SameItems, added_of}
use Rattle.tuple_match.specs.FieldValue.{FieldValue}
use Rattle.tuple_space.specs.declared.write.Write.{Write}
use Rattle.qap_search.specs.Node.Decision.{DecidesBy}
use Rattle.qap_search.specs.Worker.Hand.{thought_of}
use Rattle.qap_search.specs.Node.Thought.{ThoughtValue}
use Rattle.qap_search.specs.declared.worker.prepared.Prepared.{Prepared}
use Rattle.qap_search.specs.declared.worker.stage.LastThought.{LastThought}

-- the writes are those of the decision on the evaluated node if the incumbent costs c
pub record AreWritesFor (I : Problem) (last : ThoughtValue) (writes : List Write) (c : ℤ) : Type 0 where
  pub tuples : List (List FieldValue)
  pub written : DecidesBy I c last tuples
  pub added : SameItems (added_of writes) tuples

-- what has been prepared is that, for the cost for which it was prepared, if any
abbrev pub IsPrepared : Problem → ThoughtValue → Prepared → Type 0
IsPrepared I last p = IfSome p.cost (AreWritesFor I last p.writes)

-- a worker has prepared that from its last evaluation
abbrev pub HasPrepared : Problem → Option LastThought → Prepared → Type 0
HasPrepared I last p = IfSome last (λ l. IsPrepared I (thought_of l) p)
