use Rattle.std.proofs.Common.{pos, arith}
use Rattle.std.specs.Prelude.{codes}
use Rattle.qap_lines.proofs.NumberLists.{line_text-one}
use Rattle.qap_proof.proofs.head.read_header.Goals as goal

pub returns : goal.returns
returns c =
    line_text-one c.args.text.now _ _ (codes "qapproof") (pos 1) c.in_ok-line.ensures c.in_ok-judge_header.ensures (omega arith)
