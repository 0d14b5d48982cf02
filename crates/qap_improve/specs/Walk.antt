-- The state of a walk from one permutation to the next (Taillard, Robust taboo search for the quadratic assignment
-- problem, Parallel Computing 17, 1991).
use Rattle.std.specs.Prelude.{◌≡◌, ℕ, ℤ, List, Bool}
use Rattle.qap_cost.specs.Instance.{IsInstance, Problem}
use Rattle.qap_cost.specs.Objective.{Permutes, cost_of}
use Rattle.qap_improve.specs.Arrangement.{HasEntriesWithin, IsArrangement}
use Rattle.qap_improve.specs.Moving.{KeepsOthers}
use Rattle.qap_improve.specs.Table.{AreKept}
use Rattle.qap_improve.specs.declared.tabu.Walk.{Walk}

-- the current permutation, with its cost and the change of each exchange; the best permutation found so far is kept with
-- its cost. A number of the differences represents its value, with entries within the limit
pub record IsWalk {X : Type 0} (value : X → ℤ) (limit : ℕ) (I : Problem) (walk : Walk X) : Type 0 where
  pub instance : IsInstance I
  pub limited : HasEntriesWithin limit I
  pub arrangement : IsArrangement I walk.arrangement
  pub cost : walk.cost ≡ cost_of I walk.arrangement.locations.items
  pub differences : AreKept value I walk.arrangement.locations.items walk.differences
  pub best : Permutes I walk.best.items
  pub best_cost : walk.best_cost ≡ cost_of I walk.best.items

-- it has moved no facility that may not move, neither in the current permutation nor in the best one
pub record WalkKeeps {X : Type 0} (may_move : List Bool) (start : List ℕ) (walk : Walk X) : Type 0 where
  pub here : KeepsOthers may_move start walk.arrangement.locations.items
  pub best : KeepsOthers may_move start walk.best.items
