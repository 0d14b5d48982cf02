use Rattle.std.specs.Prelude.{◌≡◌}
use Rattle.part_search.proofs.tuples.node_with.Given as goal

abbrev pub invariant-loop-t : goal.invariant-loop-t
invariant-loop-t l = l.node.size ≡ l.fn.n
