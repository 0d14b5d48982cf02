use Rattle.std.proofs.Common.{◌≡◌, vec_len}
use Rattle.plan_picture.proofs.layout.framed.Given as goal

abbrev pub invariant-loop-centre-2 : goal.invariant-loop-centre-2
invariant-loop-centre-2 l = vec_len l.moved ≡ l.centre-index
