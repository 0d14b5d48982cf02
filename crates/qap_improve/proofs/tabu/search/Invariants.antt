use Rattle.std.proofs.Common.{◌≡◌}
use Rattle.std.specs.Prelude.{◌≤ℤ◌}
use Rattle.qap_cost.specs.Objective.{cost_of}
use Rattle.qap_improve.specs.Walk.{IsWalk, WalkKeeps}
use Rattle.qap_improve.proofs.tabu.search.Given as goal

abbrev pub invariant-loop : goal.invariant-loop
invariant-loop g l = record {
  walk : IsWalk g.N.Number.value g.N.Number.limit l.instance l.walk;
  size : l.memory.size ≡ l.instance.size;
  kept : WalkKeeps l.may_move l.start l.walk;
  no_dearer : l.walk.best_cost ≤ℤ cost_of l.instance l.start;
}
