use Rattle.qap_cost.proofs.Sums.{AddsUp}
use Rattle.pair_duals.specs.PairDuals.{alpha_of}
use Rattle.pair_duals.specs.Reduced.{but}
use Rattle.pair_duals.proofs.start.alpha_sum.Given as goal

abbrev pub invariant-loop-j : goal.invariant-loop-j
invariant-loop-j g s = AddsUp (g.N.Number.value s.total) (but s.i (alpha_of s.duals s.i s.k)) s.j g.N.Number.limits.dual
