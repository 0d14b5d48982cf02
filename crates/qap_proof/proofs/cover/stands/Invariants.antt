use Rattle.std.proofs.Common.{◌≡◌, ℕ, ◌<◌, get_or}
use Rattle.qap_proof.proofs.cover.stands.Given as goal

abbrev pub invariant-loop-t : goal.invariant-loop-t
invariant-loop-t l = (s : ℕ) → s < l.t → get_or l.facilities s 0 ≡ l.facility → get_or l.places s 0 ≡ l.location → ⊥
