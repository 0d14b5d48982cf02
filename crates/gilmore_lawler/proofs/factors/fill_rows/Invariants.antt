use Rattle.std.proofs.Common.{◌≡◌, ◌≤◌, length, take}
use Rattle.gilmore_lawler.proofs.Tables.{HasFactors}
use Rattle.gilmore_lawler.proofs.factors.fill_rows.Given as goal

abbrev pub invariant-loop-r : goal.invariant-loop-r
invariant-loop-r l = record {
  count : length l.table ≡ length l.initial.table;
  within : l.end ≤ length l.table;
  rows : HasFactors l.instance l.side l.placed l.free l.r (take l.end l.table);
}
