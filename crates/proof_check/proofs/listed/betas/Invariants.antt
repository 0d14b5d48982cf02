use Rattle.std.proofs.Common.{◌+◌, ◌-◌, ◌*◌}
use Rattle.proof_check.specs.Rows.{IsFilled, lists_of, number_of}
use Rattle.proof_check.proofs.listed.betas.Given as goal

abbrev pub invariant-loop-place : goal.invariant-loop-place
invariant-loop-place l = IsFilled l.m (λ h i k. number_of (lists_of l.rows) k h (i * l.m + k) (l.m - 1)) l.place l.list.items
