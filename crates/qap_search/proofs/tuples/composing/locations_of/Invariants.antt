use Rattle.std.specs.Prelude.{◌≡◌, length, map, pos, take}
use Rattle.qap_search.proofs.tuples.composing.locations_of.Given as goal

abbrev pub invariant-loop-i : goal.invariant-loop-i
invariant-loop-i l = record { list : l.numbers.items ≡ map pos (take l.i l.perm); long : length l.numbers.items ≡ l.i }
