use Rattle.std.proofs.Common.{◌≡◌, ◌++◌, ◌∷◌, [], rules}
use Rattle.plan_charge.specs.Extended.{flow_with}
use Rattle.plan_charge.proofs.Tables.{IsTable-more, IsTable-none}
use Rattle.plan_charge.proofs.extension.flows.Goals as goal

pub loop-k-init : goal.loop-k-init
loop-k-init c = IsTable-none (flow_with c.args.instance.now c.args.charges.now) c.args.size c.in_ok-flows.flows.items c.in_ok-flows.ensures.items

pub loop-k-preserved : goal.loop-k-preserved
loop-k-preserved c =
    let z = c.flow.result in
    let pushed : c.push.new.self.items ≡ c.loop-k.flows.items ++ z ∷ [] = search rules in
    IsTable-more (flow_with c.args.instance.now c.args.charges.now) c.args.size c.loop-k.k c.loop-k.flows.items c.push.new.self.items z c.loop-k.invariant c.flow.ensures.value c.flow.ensures.range pushed
