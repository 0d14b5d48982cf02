use Rattle.std.proofs.Common.{ℕ, ◌<◌, ◌≤◌, ◌^◌}
use Rattle.std.specs.Prelude.{unsigned_abs}
use Rattle.qap_cost.specs.Instance.{entry}
use Rattle.gilmore_lawler.specs.Table.{matrix_of}
use Rattle.gilmore_lawler.proofs.small.are_all_small.Given as goal

abbrev pub invariant-loop-i : goal.invariant-loop-i
invariant-loop-i l = (r j : ℕ) → r < l.i → j < l.instance.size → unsigned_abs (entry l.instance.size (matrix_of l.instance l.side) r j) ≤ 10 ^ 8
