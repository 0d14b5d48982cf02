use Rattle.std.proofs.Common.{◌≡◌, ◌++◌, length}
use Rattle.std.specs.List.{range_with_len}
use Rattle.plan_charge.proofs.node.extended_permutation.Given as goal

abbrev pub invariant-loop-i : goal.invariant-loop-i
invariant-loop-i l = l.locations.items ≡ l.permutation ++ range_with_len (length l.permutation) l.i
