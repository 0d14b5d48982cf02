use Rattle.qap_text.proofs.Locations.{HasReadLocations}
use Rattle.qap_text.proofs.solution_text.read_locations.Given as goal

abbrev pub invariant-loop : goal.invariant-loop
invariant-loop l = HasReadLocations l.text l.from l.n l.locations.items l.stop l.counter
