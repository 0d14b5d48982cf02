use Rattle.qap_cost.proofs.Sums.{AddsUp}
use Rattle.pair_duals.specs.PairDuals.{beta_of}
use Rattle.pair_duals.specs.Reduced.{but}
use Rattle.pair_duals.proofs.start.beta_sum.Given as goal

abbrev pub invariant-loop-l : goal.invariant-loop-l
invariant-loop-l g s = AddsUp (g.N.Number.value s.total) (but s.k (beta_of s.duals s.i s.k)) s.l g.N.Number.limits.dual
