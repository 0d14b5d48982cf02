use Rattle.std.specs.Prelude.{◌≡◌, ◌⊎◌, ℕ, ◌<◌, slice_index}
use Rattle.proof_check.proofs.node_line.are_marks.Given as goal

abbrev pub invariant-loop-at : goal.invariant-loop-at
invariant-loop-at l = (i : ℕ) → i < l.at → (slice_index l.marks i ≡ 46) ⊎ (slice_index l.marks i ≡ 43)
