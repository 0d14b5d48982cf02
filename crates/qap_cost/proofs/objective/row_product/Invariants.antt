use Rattle.qap_cost.specs.Row.{product_at}
use Rattle.qap_cost.proofs.Sums.{AddsUp}
use Rattle.qap_cost.proofs.objective.row_product.Given as goal

abbrev pub invariant-loop-j : goal.invariant-loop-j
invariant-loop-j l = AddsUp l.total (product_at l.a_row l.b_row l.locations) l.j 1000000000000000000
