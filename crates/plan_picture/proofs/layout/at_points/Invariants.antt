use Rattle.std.proofs.Common.{◌≡◌, vec_len}
use Rattle.plan_picture.proofs.layout.at_points.Given as goal

abbrev pub invariant-loop-point : goal.invariant-loop-point
invariant-loop-point l = vec_len l.centres ≡ l.point-index
