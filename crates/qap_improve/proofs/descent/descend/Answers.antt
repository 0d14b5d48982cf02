use Rattle.qap_improve.proofs.Costs.{height-falls}
use Rattle.qap_improve.proofs.Rounds.{has_gained}
use Rattle.qap_improve.specs.Exchange.{IsLocallyLeast}
use Rattle.qap_improve.proofs.descent.descend.Goals as goal

pub loop-smaller : goal.loop-smaller
loop-smaller c =
    let I = c.args.instance.now in
    let tried = c.improve.ensures.tried in
    height-falls I c.loop.arrangement.locations.items c.improve.new.arrangement.locations.items c.improve.ensures.instance c.loop.invariant.1.permutation tried.permutation
    (has_gained I (IsLocallyLeast I) c.loop.arrangement.locations.items c.improve.new.arrangement.locations.items c.improve.result tried c.loop-test.true)
