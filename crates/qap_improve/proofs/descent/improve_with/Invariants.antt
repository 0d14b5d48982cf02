use Rattle.qap_improve.specs.Arrangement.{IsArrangement}
use Rattle.qap_improve.specs.Round.{HasTried, NoneGainsWith}
use Rattle.qap_improve.proofs.descent.improve_with.Given as goal

abbrev pub invariant-loop-s : goal.invariant-loop-s
invariant-loop-s l =
    IsArrangement l.instance l.arrangement
    × HasTried l.instance (NoneGainsWith l.instance l.r l.s) l.initial.arrangement.locations.items l.arrangement.locations.items l.gained
