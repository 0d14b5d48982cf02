use Rattle.std.proofs.Common.{◌≡◌, ℕ, ◌<◌, length, get_or}
use Rattle.subtree_search.proofs.path.placed.Given as goal

abbrev pub invariant-loop-t : goal.invariant-loop-t
invariant-loop-t l = record {
  length : length l.locations.items ≡ length l.fn.locations.items;
  agrees : (s : ℕ) → s < l.t → get_or l.locations.items (get_or l.facilities s 0) 0 ≡ get_or l.places s 0;
}
