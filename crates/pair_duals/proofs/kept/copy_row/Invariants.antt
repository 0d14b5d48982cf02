use Rattle.std.proofs.Common.{map}
use Rattle.qap_cost.specs.Instance.{entry}
use Rattle.pair_duals.specs.Filling.{FillsPart}
use Rattle.pair_duals.specs.Kept.{kept_row}
use Rattle.pair_duals.proofs.kept.copy_row.Given as goal

abbrev pub invariant-loop-k : goal.invariant-loop-k
invariant-loop-k g s =
    let value = g.N.Number.value in
    FillsPart s.m (λ _ k. entry s.m (map value s.initial.table) (kept_row s.m s.pair.1 s.pair.0 k) s.pair.2) (kept_row s.m s.pair.0 s.pair.1 s.pair.2) s.k (map value s.initial.table) (map value s.table)
