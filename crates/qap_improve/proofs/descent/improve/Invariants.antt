use Rattle.qap_improve.specs.Arrangement.{IsArrangement}
use Rattle.qap_improve.specs.Round.{HasTried, NoneGainsBelow}
use Rattle.qap_improve.proofs.descent.improve.Given as goal

abbrev pub invariant-loop-r : goal.invariant-loop-r
invariant-loop-r l =
    IsArrangement l.instance l.arrangement
    × HasTried l.instance (NoneGainsBelow l.instance l.r) l.initial.arrangement.locations.items l.arrangement.locations.items l.gained
