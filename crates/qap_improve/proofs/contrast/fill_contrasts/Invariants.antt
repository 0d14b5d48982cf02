use Rattle.qap_improve.specs.Table.{HasContrasts}
use Rattle.qap_improve.proofs.contrast.fill_contrasts.Given as goal

abbrev pub invariant-loop-k : goal.invariant-loop-k
invariant-loop-k l = HasContrasts l.instance l.arrangement.locations.items l.u l.v l.contrasts l.k
