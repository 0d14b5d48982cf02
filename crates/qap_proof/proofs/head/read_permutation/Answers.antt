use Rattle.std.specs.Prelude.{codes}
use Rattle.qap_io.specs.Number.{from_one}
use Rattle.qap_lines.proofs.Locations.{AllLimited-permutation}
use Rattle.qap_lines.proofs.NumberLists.{line_text-is}
use Rattle.qap_proof.proofs.head.read_permutation.Goals as goal

pub returns : goal.returns
returns c =
    let found = c.in_ok-permutation.ensures in
    let p = c.in_ok-permutation.permutation in
    (found.0, found.1, line_text-is c.args.text.now _ _ (codes "perm") (from_one p) c.in_ok-line.ensures found.2 (AllLimited-permutation p found.0))
