use Rattle.std.proofs.Common.{arith}
use Rattle.std.proofs.lemmas.Int.{ints}
use Rattle.qap_search.proofs.CertificateLemmas.LeafBounds.{least_first, least_second}
use Rattle.qap_search.proofs.certificate.leaf_bounds.least_with.Goals as goal

pub returns-then-value-least : goal.returns-then-value-least
returns-then-value-least c =
    let fixed = c.fixed_cost.ensures in
    let duals = c.dual_sum.ensures in
    least_second _ _ _ (omega (arith, ints, fixed.value, fixed.bounded, duals.value, duals.bounded))
    (omega (arith, ints, fixed.value, fixed.bounded, duals.value, duals.bounded, c.ranges.least, c.if-value-least.true))

pub returns-else-value-least : goal.returns-else-value-least
returns-else-value-least c =
    let fixed = c.fixed_cost.ensures in
    let duals = c.dual_sum.ensures in
    least_first _ _ _ (omega (arith, ints, c.ranges.least))
    (omega (arith, ints, fixed.value, fixed.bounded, duals.value, duals.bounded, c.ranges.least, c.if-value-least.false))
