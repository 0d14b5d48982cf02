use Rattle.std.specs.Prelude.{◌≤ℤ◌}
use Rattle.qap_cost.specs.Objective.{cost_of}
use Rattle.qap_cost.specs.Placement.{Completes}
use Rattle.plan_search.proofs.improving.improved_in_turn.Given as goal

abbrev pub invariant-loop-round : goal.invariant-loop-round
invariant-loop-round g l = Completes l.node l.best × (cost_of l.instance l.best ≤ℤ cost_of l.instance l.fn.start)
