use Rattle.std.proofs.Common.{◌+◌, ◌-◌, length}
use Rattle.std.specs.List.{All}
use Rattle.qap_cost.specs.Instance.{Problem}
use Rattle.gilmore_lawler.specs.Levels.{KeepsRows}
use Rattle.gilmore_lawler.proofs.levels.deepen.Given as goal

abbrev pub invariant-loop-alloc : goal.invariant-loop-alloc
invariant-loop-alloc l = (I : Problem) → All (KeepsRows I) l.initial.levels.items → All (KeepsRows I) l.levels.items

abbrev pub decreases-loop-alloc : goal.decreases-loop-alloc
decreases-loop-alloc l = l.depth + 1 - length l.levels.items
