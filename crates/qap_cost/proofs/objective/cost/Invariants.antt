use Rattle.std.proofs.Common.{◌*◌}
use Rattle.qap_cost.specs.Objective.{row_cost}
use Rattle.qap_cost.proofs.Sums.{AddsUp}
use Rattle.qap_cost.proofs.objective.cost.Given as goal

abbrev pub invariant-loop-i : goal.invariant-loop-i
invariant-loop-i l = AddsUp l.total (row_cost l.instance l.locations) l.i (256 * 1000000000000000000)
