use Rattle.std.specs.Prelude.{◌≡◌, length, map, pos, take}
use Rattle.part_search.proofs.tuples.list_field.Given as goal

abbrev pub invariant-loop-number : goal.invariant-loop-number
invariant-loop-number l = record { list : l.wide.items ≡ map pos (take l.number-index l.list); long : length l.wide.items ≡ l.number-index }
