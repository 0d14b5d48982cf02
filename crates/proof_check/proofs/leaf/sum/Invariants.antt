use Rattle.std.proofs.Common.{◌^◌, get_or, pos}
use Rattle.qap_cost.proofs.Sums.{AddsUp}
use Rattle.proof_check.proofs.leaf.sum.Given as goal

abbrev pub invariant-loop-number : goal.invariant-loop-number
invariant-loop-number l = AddsUp l.sum (λ i. get_or l.numbers i (pos 0)) l.number-index (10 ^ 30)
