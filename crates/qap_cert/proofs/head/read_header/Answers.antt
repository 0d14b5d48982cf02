use Rattle.std.proofs.Common.{pos, arith}
use Rattle.std.specs.Prelude.{codes}
use Rattle.qap_cert.specs.Version.{version_number}
use Rattle.qap_lines.proofs.NumberLists.{line_text-one}
use Rattle.qap_cert.proofs.Versions.{version_small}
use Rattle.qap_cert.proofs.head.read_header.Goals as goal

pub returns : goal.returns
returns c =
    let v = c.in_ok-version.version in
    line_text-one c.args.text.now _ _ (codes "qapcert") (pos (version_number v)) c.in_ok-line.ensures c.in_ok-version.ensures (omega (arith, (version_small v).1))
