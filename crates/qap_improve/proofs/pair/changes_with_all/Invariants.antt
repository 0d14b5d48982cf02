use Rattle.qap_cost.proofs.Sums.{AddsUp}
use Rattle.qap_improve.specs.Difference.{change_with}
use Rattle.qap_improve.proofs.pair.changes_with_all.Given as goal

abbrev pub invariant-loop-k : goal.invariant-loop-k
invariant-loop-k l = AddsUp l.total (change_with l.instance l.locations l.r l.s) l.k 8000000000000000000
