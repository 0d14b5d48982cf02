use Rattle.std.proofs.Common.{◌≡◌, ◌++◌, drop}
use Rattle.plan_table.specs.CsvText.{doubled}
use Rattle.plan_answer.proofs.layout.push_doubled.Given as goal

abbrev pub invariant-loop-byte : goal.invariant-loop-byte
invariant-loop-byte l = l.text.items ++ doubled (drop l.byte-index l.name) ≡ l.fn.text.items ++ doubled l.name
