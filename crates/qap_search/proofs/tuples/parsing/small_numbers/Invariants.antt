use Rattle.std.specs.Prelude.{◌≡◌, map, pos, take}
use Rattle.number_list.specs.Numbers.{numbers_in}
use Rattle.qap_search.proofs.tuples.parsing.small_numbers.Given as goal

abbrev pub invariant-loop-place : goal.invariant-loop-place
invariant-loop-place l = map pos l.small.items ≡ take l.place (numbers_in l.numbers)
