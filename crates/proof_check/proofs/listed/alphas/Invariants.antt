use Rattle.std.proofs.Common.{◌+◌, ◌*◌}
use Rattle.proof_check.specs.Rows.{IsFilled, lists_of, number_of}
use Rattle.proof_check.proofs.listed.alphas.Given as goal

abbrev pub invariant-loop-place : goal.invariant-loop-place
invariant-loop-place l = IsFilled l.m (λ j i k. number_of (lists_of l.rows) i j (i * l.m + k) 0) l.place l.list.items
