use Rattle.std.proofs.Common.{◌≡◌, ◌++◌, ◌∷◌, [], rules}
use Rattle.plan_file.proofs.Fillings.{IsFilledUp-more, IsFilledUp-none}
use Rattle.plan_file.proofs.problem.filled_up.Goals as goal

pub loop-k-init : goal.loop-k-init
loop-k-init c = IsFilledUp-none c.args.departments c.args.flows.now c.args.places c.in_ok-filled.filled.items c.in_ok-filled.ensures.items

pub loop-k-preserved : goal.loop-k-preserved
loop-k-preserved c =
    let z = c.flow_between.result in
    let pushed : c.push.new.self.items ≡ c.loop-k.filled.items ++ z ∷ [] = search rules in
    IsFilledUp-more c.args.departments c.args.flows.now c.args.places c.loop-k.k c.loop-k.filled.items c.push.new.self.items z c.loop-k.invariant c.flow_between.ensures.value c.flow_between.ensures.range pushed
