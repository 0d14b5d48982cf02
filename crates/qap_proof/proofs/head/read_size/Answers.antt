use Rattle.std.proofs.Common.{pos, arith}
use Rattle.std.specs.Prelude.{codes}
use Rattle.qap_lines.proofs.NumberLists.{line_text-one}
use Rattle.qap_proof.proofs.head.read_size.Goals as goal

pub returns : goal.returns
returns c =
    let size = c.in_ok-size.ensures in
    (size.0, size.1, line_text-one c.args.text.now _ _ (codes "n") (pos c.in_ok-size.size) c.in_ok-line.ensures size.2 (omega arith))
