use Rattle.qap_cost.specs.Row.{product_between}
use Rattle.qap_cost.proofs.Sums.{AddsUp}
use Rattle.qap_cost.proofs.partial.placed_product.Given as goal

abbrev pub invariant-loop-t : goal.invariant-loop-t
invariant-loop-t l = AddsUp l.total (product_between l.a_row l.b_row l.facilities l.places) l.t 1000000000000000000
