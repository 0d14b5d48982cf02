use Rattle.std.proofs.Common.{length, map}
use Rattle.pair_duals.specs.Kept.{AreKept, kept_row}
use Rattle.pair_duals.proofs.kept.keep_rows.Given as goal

abbrev pub invariant-loop-i : goal.invariant-loop-i
invariant-loop-i g s = AreKept s.instance s.duals (kept_row (length s.duals.facilities) s.i s.seat.0 s.seat.1) (map g.N.Number.value s.table)
