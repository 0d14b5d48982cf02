use Rattle.std.proofs.Common.{pos}
use Rattle.proof_check.proofs.head.judge_header.Goals as goal

pub returns-in_default-2-clause-judged : goal.returns-in_default-2-clause-judged
returns-in_default-2-clause-judged c = λ named. (rw c.in_default.is at c.one_number.ensures) (pos 2) named
