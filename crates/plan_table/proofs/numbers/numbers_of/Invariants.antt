use Rattle.std.proofs.Common.{map, take}
use Rattle.std.specs.String.{string_bytes}
use Rattle.plan_table.specs.Numbers.{AreNumbers}
use Rattle.plan_table.proofs.numbers.numbers_of.Given as goal

abbrev pub invariant-loop-i : goal.invariant-loop-i
invariant-loop-i l = AreNumbers l.numbers (map string_bytes (take l.i l.names))
