use Rattle.std.proofs.Common.{◌≡◌, vec_len}
use Rattle.plan_picture.proofs.layout.in_rows.Given as goal

abbrev pub invariant-loop-k : goal.invariant-loop-k
invariant-loop-k l = vec_len l.centres ≡ l.k
