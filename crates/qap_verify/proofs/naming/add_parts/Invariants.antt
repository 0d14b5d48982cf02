use Rattle.std.specs.Prelude.{map, take}
use Rattle.qap_verify.specs.Naming.{AddsEach}
use Rattle.qap_verify.proofs.naming.add_parts.Given as goal

abbrev pub invariant-loop-i : goal.invariant-loop-i
invariant-loop-i g l =
    AddsEach (g.D.Sources.holds l.sources) g.F.Read.remaining (take l.i (map (λ name. name.now) l.names)) l.initial.cover l.cover
