use Rattle.std.proofs.Common.{◌≡◌, ◌++◌, take}
use Rattle.qap_io.specs.Number.{from_one}
use Rattle.qap_lines.specs.LineText.{numbers_text}
use Rattle.qap_lines.proofs.writing.push_from_one.Given as goal

abbrev pub invariant-loop-number : goal.invariant-loop-number
invariant-loop-number l = l.line.items ≡ l.initial.line.items ++ numbers_text (from_one (take l.number-index l.numbers))
