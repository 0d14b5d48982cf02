use Rattle.std.specs.Prelude.{◌≡◌, ℕ, ◌<◌, length, pos, slice_index_or}
use Rattle.qap_proof.specs.NodeLine.{pair_of}
use Rattle.qap_proof.specs.Tree.{facility_on, location_on}
use Rattle.qap_proof.specs.Valid.{Reaches}
use Rattle.qap_proof.proofs.reached.child_values.Given as goal

abbrev pub invariant-loop-child : goal.invariant-loop-child
invariant-loop-child l =
    (length l.values.items ≡ l.child)
    × ((c : ℕ) → c < l.child → Reaches l.instance l.node (pair_of l.duals) (facility_on l.side l.node l.number c) (location_on l.side l.node l.number c) (slice_index_or l.values.items c (pos 0)))
