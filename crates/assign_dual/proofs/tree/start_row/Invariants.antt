use Rattle.std.proofs.Common.{◌≡◌, ℕ, ◌<◌, get_or, map, pos}
use Rattle.std.specs.Prelude.{◌-ℤ◌}
use Rattle.assign_dual.proofs.tree.start_row.Given as goal

abbrev pub invariant-loop-k : goal.invariant-loop-k
invariant-loop-k g l = record {
  distance : (j : ℕ) → j < l.k → get_or (map g.N.Number.value l.distances) j (pos 0) ≡ get_or (map g.N.Number.value l.row) j (pos 0) -ℤ get_or (map g.N.Number.value l.v) j (pos 0);
  origin : (j : ℕ) → j < l.k → get_or l.origins j 0 ≡ 0;
}
