use Rattle.std.proofs.Common.{length, map}
use Rattle.pair_duals.specs.Kept.{AreKept, kept_row}
use Rattle.pair_duals.proofs.kept.keep_facility.Given as goal

abbrev pub invariant-loop-l : goal.invariant-loop-l
invariant-loop-l g s = AreKept s.instance s.duals (kept_row (length s.duals.facilities) 0 s.initial.j s.l) (map g.N.Number.value s.table)
