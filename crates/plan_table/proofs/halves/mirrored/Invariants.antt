use Rattle.std.proofs.Common.{◌≡◌, ◌<◌, ℕ, None, get_or, length}
use Rattle.plan_table.specs.Halves.{either, mirror_of}
use Rattle.plan_table.proofs.halves.mirrored.Given as goal

abbrev pub invariant-loop-cell : goal.invariant-loop-cell
invariant-loop-cell l = record {
  many : length l.all.items ≡ l.cell;
  each : (c : ℕ) → c < l.cell → get_or l.all.items c None ≡ either (get_or l.cells c None) (get_or l.cells (mirror_of l.n c) None);
}
