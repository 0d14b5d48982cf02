use Rattle.std.proofs.Common.{arith}
use Rattle.qap_improve.proofs.Contrasts.{HasContrasts-written}
use Rattle.qap_improve.proofs.contrast.fill_contrasts.Goals as goal

pub loop-k-preserved : goal.loop-k-preserved
loop-k-preserved c =
    HasContrasts-written c.args.instance.now c.args.arrangement.now.locations.items c.args.u c.args.v c.loop-k.contrasts c.loop-k.k c.contrast_of.result
    (omega (arith, c.loop-k-test.true, c.loop-k.auto.contrasts)) c.contrast_of.ensures c.loop-k.invariant
