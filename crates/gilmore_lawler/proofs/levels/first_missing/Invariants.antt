use Rattle.std.proofs.Common.{◌≤◌, length}
use Rattle.gilmore_lawler.proofs.levels.first_missing.Given as goal

abbrev pub invariant-loop-depth : goal.invariant-loop-depth
invariant-loop-depth l = l.depth ≤ length l.fn.places

abbrev pub decreases-loop-depth : goal.decreases-loop-depth
decreases-loop-depth l = l.depth
