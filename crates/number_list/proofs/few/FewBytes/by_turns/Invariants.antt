use Rattle.std.proofs.Common.{◌≡◌, map, pos, take}
use Rattle.number_list.specs.Turns.{by_turns}
use Rattle.number_list.proofs.few.FewBytes.by_turns.Given as goal

abbrev pub invariant-loop-t : goal.invariant-loop-t
invariant-loop-t l = map pos l.few ≡ by_turns (take l.t l.first) (take l.t l.second)
