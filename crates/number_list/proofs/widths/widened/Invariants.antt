use Rattle.std.proofs.Common.{◌≡◌, map, take}
use Rattle.number_list.proofs.widths.widened.Given as goal

abbrev pub invariant-loop-number : goal.invariant-loop-number
invariant-loop-number g l = l.wide.items ≡ map g.W.Width.value (take l.number-index l.numbers)
