use Rattle.std.proofs.Common.{◌≡◌, ◌<◌, ℕ, get_or}
use Rattle.qap_cost.specs.Placement.{StandsAt}
use Rattle.plan_check.proofs.answer.moved.Given as goal

abbrev pub invariant-loop-facility : goal.invariant-loop-facility
invariant-loop-facility l = (f : ℕ) → f < l.facility → (k : ℕ) → StandsAt l.fixed f k → get_or l.locations f 0 ≡ k
