use Rattle.std.proofs.Common.{◌≡◌, ◌<◌, ℕ, get_or}
use Rattle.part_search.proofs.offers.completes.Given as goal

abbrev pub invariant-loop-t : goal.invariant-loop-t
invariant-loop-t l = (s : ℕ) → s < l.t → get_or l.locations (get_or l.facilities s 0) 0 ≡ get_or l.places s 0
