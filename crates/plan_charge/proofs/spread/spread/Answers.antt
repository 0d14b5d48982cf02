use Rattle.std.proofs.Common.{◌≡◌, ◌∙◌, ap, rules}
use Rattle.std.specs.Prelude.{◌+ℤ◌, ◌*ℤ◌, unsigned_abs}
use Rattle.qap_cost.specs.Sum.{sum_to}
use Rattle.plan_charge.specs.Spread.{charge_range}
use Rattle.plan_charge.proofs.Spreads.{spread-made}
use Rattle.plan_charge.proofs.spread.spread.Goals as goal

pub returns-clause-value : goal.returns-clause-value
returns-clause-value c =
    let charges = c.args.charges.now in
    let product : c.times-flows.result ≡ c.distance_range.result *ℤ c.total_flow.result = search rules in
    let whole : c.unsigned_abs.result ≡ unsigned_abs (c.times-flows.result +ℤ c.total_range.result) = search rules in
    spread-made c.args.instance.now charges c.distance_range.result c.total_flow.result c.times-flows.result c.total_range.result c.unsigned_abs.result c.size.ensures.instance.positive c.distance_range.ensures.value c.total_flow.ensures.value product
    (c.total_range.ensures.value ∙ ap (λ n. sum_to (charge_range n charges) charges.count) c.size.ensures.value) whole
