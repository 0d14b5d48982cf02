use Rattle.std.proofs.Common.{length, map}
use Rattle.pair_duals.specs.Filling.{FillsPart}
use Rattle.pair_duals.specs.Kept.{kept_row}
use Rattle.pair_duals.specs.PairDuals.{residual}
use Rattle.pair_duals.proofs.kept.compute_row.Given as goal

abbrev pub invariant-loop-k : goal.invariant-loop-k
invariant-loop-k g s =
    let value = g.N.Number.value in
    FillsPart (length s.duals.facilities) (λ _ k. residual s.instance s.duals s.pair.0 k s.pair.1 s.pair.2) (kept_row (length s.duals.facilities) s.pair.0 s.pair.1 s.pair.2) s.k (map value s.initial.table) (map value s.table)
