use Rattle.std.specs.Prelude.{◌≢◌, ℕ, ◌<◌, ◌≤◌, slice_index}
use Rattle.proof_check.proofs.node_line.heading_of.Given as goal

abbrev pub invariant-loop-at : goal.invariant-loop-at
invariant-loop-at l = (i : ℕ) → 2 ≤ i → i < l.at → slice_index l.line i ≢ 32
