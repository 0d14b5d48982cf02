use Rattle.std.proofs.Common.{◌≡◌, ◌++◌, take}
use Rattle.qap_lines.specs.LineText.{numbers_text}
use Rattle.qap_proof.specs.Text.{by_turns}
use Rattle.qap_proof.proofs.writing.push_by_turns.Given as goal

abbrev pub invariant-loop-t : goal.invariant-loop-t
invariant-loop-t l = l.line.items ≡ l.initial.line.items ++ numbers_text (by_turns (take l.t l.facilities) (take l.t l.places))
