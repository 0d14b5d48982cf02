use Rattle.std.proofs.Common.{◌≡◌, length}
use Rattle.std.specs.List.{All}
use Rattle.gilmore_lawler.specs.Levels.{KeepsRows}
use Rattle.gilmore_lawler.proofs.levels.make_ancestors.Given as goal

abbrev pub invariant-loop-depth : goal.invariant-loop-depth
invariant-loop-depth l = All (KeepsRows l.fn.ranked) l.levels × (length l.levels ≡ length l.fn.levels)
