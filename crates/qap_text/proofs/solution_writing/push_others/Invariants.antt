use Rattle.std.proofs.Common.{◌≡◌, ◌++◌, take}
use Rattle.qap_text.specs.WrittenSolution.{behind_spaces}
use Rattle.qap_text.proofs.solution_writing.push_others.Given as goal

abbrev pub invariant-loop-location : goal.invariant-loop-location
invariant-loop-location l = l.text.items ≡ l.initial.text.items ++ behind_spaces (take l.location-index l.locations)
