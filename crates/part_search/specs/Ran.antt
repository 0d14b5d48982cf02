-- The run behind the answer of a search: what its workers and its keeper did with the space, act by act.
use Rattle.std.specs.Prelude.{◌≡◌, ◌≤ℤ◌, ℕ, Contains, count_by}
use Rattle.shared_space.specs.Law.{Content}
use Rattle.shared_space.specs.Limit.{is_reached}
use Rattle.shared_space.specs.Place.{Place, place_of}
use Rattle.shared_space.specs.Run.{ChangesBy, Run, is_accepted}
use Rattle.space_txn.specs.Content.{content_of}
use Rattle.space_txn.specs.World.{World}
use Rattle.part_search.specs.Law.{Part}
use Rattle.part_search.specs.Opening.{IsOpening}
use Rattle.part_search.specs.Replacement.{MayReplace}
use Rattle.part_search.specs.Tuples.{OpenNode, best_tuple, node_tuple}
use Rattle.part_search.specs.declared.answer.Answer.{Answer}
use Rattle.part_search.specs.declared.threads.Crew.{Crew}

-- from the initial space of the search, which nobody has left, a run leads to this world: each act is a step of the machine, under
-- the limit of commits; each commit replaces an open node with what is allowed, each transaction begins with the crew's lease, and
-- no call outside all transactions changes the space
pub record RanTo (S : Part) (crew : Crew) (w : World) : Type 0 where
  pub opening : World
  pub opens : IsOpening S opening
  pub place : Place
  pub is : place.world ≡ w
  pub run : Run (MayReplace S.instance) (λ lease. lease ≡ crew.lease_ms) ⊥ crew.limit (place_of opening crew.workers 0 (is_reached crew.limit 0)) place

-- the answer's permutation is that of the content; its bound is at most the value of each node that is open there, and if it
-- reports none as open, there is none
pub record IsReadFrom (content : Content) (a : Answer) : Type 0 where
  pub best : Contains content (best_tuple a.best)
  pub below : (o : OpenNode) → Contains content (node_tuple o) → a.bound ≤ℤ o.value
  pub none_open : a.open_nodes ≡ 0 → (o : OpenNode) → Contains content (node_tuple o) → ⊥

-- such a run has as many accepted commits as the answer has nodes, which alone have changed the content, one after the other; and
-- the answer was read from the content that it leaves
pub record Ran (S : Part) (crew : Crew) (a : Answer) : Type 0 where
  pub world : World
  pub ran : RanTo S crew world
  pub accepted : count_by is_accepted ran.run.acts ≡ a.nodes
  pub changed : ChangesBy (MayReplace S.instance) a.nodes (content_of ran.opening) (content_of world)
  pub read : IsReadFrom (content_of world) a
