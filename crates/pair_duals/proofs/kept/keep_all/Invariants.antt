use Rattle.std.proofs.Common.{length, map}
use Rattle.pair_duals.specs.Kept.{AreKept, kept_row}
use Rattle.pair_duals.proofs.kept.keep_all.Given as goal

abbrev pub invariant-loop-j : goal.invariant-loop-j
invariant-loop-j g s = AreKept s.instance s.duals (kept_row (length s.duals.facilities) 0 s.j 0) (map g.N.Number.value s.table)
