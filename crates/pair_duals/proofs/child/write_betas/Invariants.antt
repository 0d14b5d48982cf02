use Rattle.std.proofs.Common.{map}
use Rattle.std.specs.Prelude.{length}
use Rattle.pair_duals.specs.DualRow.{BeginsDualRow}
use Rattle.pair_duals.specs.Shared.{beta_along}
use Rattle.pair_duals.proofs.child.write_betas.Given as goal

abbrev pub invariant-loop-c : goal.invariant-loop-c
invariant-loop-c g s = BeginsDualRow g.N.Number.limits.dual (length s.columns) (beta_along s.duals s.columns s.j s.l) s.c (map g.N.Number.value s.list)
