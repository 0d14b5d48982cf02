use Rattle.std.proofs.Common.{◌≡◌, List, ℕ}
use Rattle.std.specs.Prelude.{◌≤ℤ◌}
use Rattle.qap_improve.specs.Walk.{IsWalk, WalkKeeps}
use Rattle.qap_improve.proofs.tabu.kick.Given as goal

abbrev pub invariant-loop : goal.invariant-loop
invariant-loop g l = record {
  walk : IsWalk g.N.Number.value g.N.Number.limit l.instance l.walk;
  size : l.memory.size ≡ l.instance.size;
  kept : (start : List ℕ) → WalkKeeps l.may_move start l.fn.walk → WalkKeeps l.may_move start l.walk;
  no_dearer : l.walk.best_cost ≤ℤ l.fn.walk.best_cost;
}
