use Rattle.std.proofs.Common.{ℕ, ◌<◌, get_or, pos}
use Rattle.qap_cost.specs.Range.{InRange}
use Rattle.qap_cost.proofs.instance.are_entries.Given as goal

abbrev pub invariant-loop-x : goal.invariant-loop-x
invariant-loop-x l = (k : ℕ) → k < l.x-index → InRange (get_or l.numbers k (pos 0))
