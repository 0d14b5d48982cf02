use Rattle.std.specs.Prelude.{◌≡◌, ℕ, ◌+◌, ◌*◌, ◌<◌, pos, slice_index, slice_index_or}
use Rattle.number_list.specs.Numbers.{numbers_in}
use Rattle.qap_search.proofs.certificate.tree_building.are_by_turns.Given as goal

abbrev pub invariant-loop-t : goal.invariant-loop-t
invariant-loop-t l =
    (s : ℕ) → s < l.t →
    (slice_index_or (numbers_in l.list) (2 * s) (pos 0) ≡ pos (slice_index l.facilities s)) × (slice_index_or (numbers_in l.list) (2 * s + 1) (pos 0) ≡ pos (slice_index l.places s))
