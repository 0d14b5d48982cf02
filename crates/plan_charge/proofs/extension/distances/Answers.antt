use Rattle.std.proofs.Common.{◌≡◌, ◌++◌, ◌∷◌, [], rules}
use Rattle.plan_charge.specs.Extended.{distance_with}
use Rattle.plan_charge.proofs.Tables.{IsTable-more, IsTable-none}
use Rattle.plan_charge.proofs.extension.distances.Goals as goal

pub loop-k-init : goal.loop-k-init
loop-k-init c = IsTable-none (distance_with c.args.instance.now c.args.charges.now) c.args.size c.in_ok-distances.distances.items c.in_ok-distances.ensures.items

pub loop-k-preserved : goal.loop-k-preserved
loop-k-preserved c =
    let z = c.distance.result in
    let pushed : c.push.new.self.items ≡ c.loop-k.distances.items ++ z ∷ [] = search rules in
    IsTable-more (distance_with c.args.instance.now c.args.charges.now) c.args.size c.loop-k.k c.loop-k.distances.items c.push.new.self.items z c.loop-k.invariant c.distance.ensures.value c.distance.ensures.range pushed
