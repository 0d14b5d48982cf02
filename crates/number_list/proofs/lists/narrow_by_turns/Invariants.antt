use Rattle.std.proofs.Common.{◌≡◌, take}
use Rattle.number_list.specs.Turns.{by_turns}
use Rattle.number_list.proofs.lists.narrow_by_turns.Given as goal

abbrev pub invariant-loop-t : goal.invariant-loop-t
invariant-loop-t l = l.numbers.items ≡ by_turns (take l.t l.first) (take l.t l.second)
