use Rattle.std.proofs.Common.{◌≡◌, ◌++◌, drop}
use Rattle.qap_plan.specs.Answer.{place_lines}
use Rattle.qap_plan.proofs.output.answer.push_places.Given as goal

abbrev pub invariant-loop-i : goal.invariant-loop-i
invariant-loop-i l = (l.text.items ++ place_lines l.i (drop l.i l.locations) ≡ l.fn.text.items ++ place_lines 0 l.locations)
