use Rattle.qap_cost.proofs.Sums.{AddsUp}
use Rattle.qap_improve.specs.Rows.{crossed_with}
use Rattle.qap_improve.proofs.rows.wide_sum.Given as goal

abbrev pub invariant-loop-k : goal.invariant-loop-k
invariant-loop-k l = AddsUp l.total (crossed_with l.there l.back) l.k 8000000000000000000
