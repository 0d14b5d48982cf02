use Rattle.std.proofs.Common.{map}
use Rattle.qap_improve.specs.Table.{HasSettled}
use Rattle.qap_improve.proofs.table.settle_all.Given as goal

abbrev pub invariant-loop-k : goal.invariant-loop-k
invariant-loop-k g l = HasSettled l.instance l.arrangement.locations.items l.exchanged.0 l.exchanged.1 l.k (map g.N.Number.value l.entries)
