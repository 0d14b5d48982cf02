use Rattle.std.proofs.Common.{pos}
use Rattle.qap_cert.proofs.head.judge_header.Goals as goal

pub returns-in-None : goal.returns-in-None
returns-in-None c = λ n positive. (rw c.in-None.is at c.one_number.ensures) (pos n)
