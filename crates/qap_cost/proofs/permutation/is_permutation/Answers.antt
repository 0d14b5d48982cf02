use Rattle.std.proofs.Common.{arith}
use Rattle.qap_cost.proofs.Seen.{HasSeen-none, HasSeen-more}
use Rattle.qap_cost.proofs.permutation.is_permutation.Goals as goal

pub loop-location-init : goal.loop-location-init
loop-location-init c = HasSeen-none c.args.locations.now

pub loop-location-preserved : goal.loop-location-preserved
loop-location-preserved c =
    HasSeen-more _ _ _ _ c.loop-location.invariant c.loop-location-test.true c.from-k.ensures c.if-k-n.false (omega arith) c.if-seen-k.false
