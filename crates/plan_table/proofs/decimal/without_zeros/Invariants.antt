use Rattle.std.proofs.Common.{◌≡◌, length}
use Rattle.plan_table.specs.Decimal.{without_zeros}
use Rattle.plan_table.proofs.decimal.without_zeros.Given as goal

abbrev pub invariant-loop-last : goal.invariant-loop-last
invariant-loop-last l = without_zeros l.kept ≡ without_zeros l.digits

abbrev pub decreases-loop-last : goal.decreases-loop-last
decreases-loop-last l = length l.kept
