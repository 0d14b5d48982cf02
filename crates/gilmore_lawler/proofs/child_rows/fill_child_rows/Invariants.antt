use Rattle.std.proofs.Common.{◌≡◌, ◌≤◌, ◌++◌, ◌∷◌, [], length, take, get_or}
use Rattle.std.specs.Prelude.{remove}
use Rattle.gilmore_lawler.specs.declared.side.Side.TheVariants.{Distance}
use Rattle.gilmore_lawler.proofs.Tables.{HasFactors}
use Rattle.gilmore_lawler.proofs.child_rows.fill_child_rows.Given as goal

abbrev pub invariant-loop-r : goal.invariant-loop-r
invariant-loop-r l = record {
  count : length l.table ≡ length l.initial.table;
  within : l.end ≤ length l.table;
  rows : HasFactors l.instance Distance (l.places ++ get_or l.free l.s 0 ∷ []) (remove l.free l.s) l.r (take l.end l.table);
}
