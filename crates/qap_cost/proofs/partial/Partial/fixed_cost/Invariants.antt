use Rattle.std.proofs.Common.{◌*◌}
use Rattle.qap_cost.proofs.Sums.{AddsUp}
use Rattle.qap_cost.proofs.Placements.{placed_row}
use Rattle.qap_cost.proofs.partial.Partial.fixed_cost.Given as goal

abbrev pub invariant-loop-s : goal.invariant-loop-s
invariant-loop-s l = AddsUp l.total (placed_row l.instance l.self) l.s (256 * 1000000000000000000)
