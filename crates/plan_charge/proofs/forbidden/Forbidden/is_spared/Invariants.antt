use Rattle.std.proofs.Common.{◌≡◌, ◌<◌, ℕ, slice_index, false}
use Rattle.plan_charge.specs.Forbidden.{is_forbidden}
use Rattle.plan_charge.proofs.forbidden.Forbidden.is_spared.Given as goal

abbrev pub invariant-loop-i : goal.invariant-loop-i
invariant-loop-i l = (j : ℕ) → j < l.i → is_forbidden l.n l.self j (slice_index l.locations j) ≡ false
