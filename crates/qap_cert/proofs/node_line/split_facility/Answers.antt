use Rattle.std.proofs.Common.{◌+◌, pos, subst}
use Rattle.qap_cert.specs.TextFault.{IsSplitLine}
use Rattle.qap_cert.specs.declared.version.Version.{Version}
use Rattle.qap_cert.specs.declared.version.Version.TheVariants.{Second}
use Rattle.qap_cert.proofs.node_line.split_facility.Goals as goal

pub returns-in-None : goal.returns-in-None
returns-in-None c =
    λ f h.
    let line : IsSplitLine Second c.args.grammar.size c.args.placed.now c.args.line.now f =
    subst (λ (v : Version). IsSplitLine v c.args.grammar.size c.args.placed.now c.args.line.now f) c.in-Second.is h in
    c.in-None.ensures (pos (f + 1)) line.named
