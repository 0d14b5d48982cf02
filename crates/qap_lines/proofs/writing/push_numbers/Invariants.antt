use Rattle.std.proofs.Common.{◌≡◌, ◌++◌, take}
use Rattle.number_list.specs.Numbers.{numbers_in}
use Rattle.qap_lines.specs.LineText.{numbers_text}
use Rattle.qap_lines.proofs.writing.push_numbers.Given as goal

abbrev pub invariant-loop-place : goal.invariant-loop-place
invariant-loop-place l = l.line.items ≡ l.initial.line.items ++ numbers_text (take l.place (numbers_in l.numbers))
