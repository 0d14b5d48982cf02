use Rattle.std.proofs.Common.{◌≡◌, ◌++◌, take}
use Rattle.std.specs.List.{filter}
use Rattle.plan_table.specs.Decimal.{is_digit}
use Rattle.plan_table.proofs.numeral.push_digits.Given as goal

abbrev pub invariant-loop-byte : goal.invariant-loop-byte
invariant-loop-byte l = l.text.items ≡ l.initial.text.items ++ filter is_digit (take l.byte-index l.whole)
