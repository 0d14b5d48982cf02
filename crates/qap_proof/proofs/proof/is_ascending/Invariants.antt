use Rattle.std.proofs.Common.{ℕ, ◌<◌, slice_index}
use Rattle.qap_proof.proofs.proof.is_ascending.Given as goal

abbrev pub invariant-loop-i : goal.invariant-loop-i
invariant-loop-i l = (a b : ℕ) → a < b → b < l.i → slice_index l.numbers a < slice_index l.numbers b
