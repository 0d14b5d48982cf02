use Rattle.qap_improve.specs.Arrangement.{IsArrangement}
use Rattle.qap_improve.proofs.Costs.{height}
use Rattle.qap_improve.proofs.Rounds.{HasFallen}
use Rattle.qap_improve.proofs.descent.descend.Given as goal

abbrev pub invariant-loop : goal.invariant-loop
invariant-loop l =
    IsArrangement l.instance l.arrangement
    × HasFallen l.instance l.initial.arrangement.locations.items l.arrangement.locations.items

abbrev pub decreases-loop : goal.decreases-loop
decreases-loop l = height l.instance l.arrangement.locations.items
