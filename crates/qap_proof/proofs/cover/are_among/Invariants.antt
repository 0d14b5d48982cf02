use Rattle.std.proofs.Common.{ℕ, ◌<◌, get_or}
use Rattle.qap_cost.specs.Placement.{StandsAt}
use Rattle.qap_proof.proofs.cover.are_among.Given as goal

abbrev pub invariant-loop-t : goal.invariant-loop-t
invariant-loop-t l = (s : ℕ) → s < l.t → StandsAt l.node (get_or l.facilities s 0) (get_or l.places s 0)
