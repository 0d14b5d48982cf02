use Rattle.std.proofs.Common.{◌≡◌, take}
use Rattle.number_list.specs.Numbers.{numbers_in}
use Rattle.number_list.proofs.numbers.compare_each.Given as goal

abbrev pub invariant-loop-place : goal.invariant-loop-place
invariant-loop-place l = take l.place (numbers_in l.numbers) ≡ take l.place (numbers_in l.other)
