use Rattle.std.proofs.Common.{◌≡◌, ◌<◌, ℕ, length, get_or, vec_len}
use Rattle.qap_cost.proofs.permutation.inverted.Given as goal

abbrev pub invariant-loop-i : goal.invariant-loop-i
invariant-loop-i l =
    (vec_len l.facilities ≡ length l.locations) × ((k : ℕ) → k < l.i → get_or l.facilities.items (get_or l.locations k 0) 0 ≡ k)
