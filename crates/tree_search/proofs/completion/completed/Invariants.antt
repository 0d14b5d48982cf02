use Rattle.std.proofs.Common.{◌≡◌, length}
use Rattle.tree_search.proofs.completion.completed.Given as goal

abbrev pub invariant-loop-facility : goal.invariant-loop-facility
invariant-loop-facility l = length l.locations.items ≡ l.node.size

abbrev pub invariant-loop-facility-2 : goal.invariant-loop-facility-2
invariant-loop-facility-2 l = length l.locations.items ≡ l.node.size
