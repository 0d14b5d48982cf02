use Rattle.std.proofs.Common.{pos, inl, refl}
use Rattle.qap_proof.proofs.head.judge_header.Goals as goal

pub returns-in-None : goal.returns-in-None
returns-in-None c = inl (refl, λ n positive. (rw c.in-None.is at c.one_number.ensures) (pos n))
