use Rattle.std.proofs.Common.{◌+◌}
use Rattle.qap_improve.specs.Round.{NoneGainsBelow, NoneGainsWith}
use Rattle.qap_improve.proofs.Rounds.{HasTried-more, NoneGainsBelow-more}
use Rattle.qap_improve.proofs.descent.improve.Goals as goal

pub loop-r-preserved : goal.loop-r-preserved
loop-r-preserved c =
    let I = c.args.instance.now in
    let r = c.loop-r.r in
    let step = c.improve_with-gained.ensures in (
      step.arrangement,
      HasTried-more I (NoneGainsBelow I r) (NoneGainsWith I r I.size) (NoneGainsBelow I (r + 1)) _ _ _ _ _ c.loop-r.invariant.1 step.tried
          (NoneGainsBelow-more I r c.improve_with-gained.new.arrangement.locations.items),
    )
