use Rattle.qap_cost.proofs.Seen.{HasSeen}
use Rattle.qap_cost.proofs.permutation.is_permutation.Given as goal

abbrev pub invariant-loop-location : goal.invariant-loop-location
invariant-loop-location l = HasSeen l.locations l.seen l.location-index
