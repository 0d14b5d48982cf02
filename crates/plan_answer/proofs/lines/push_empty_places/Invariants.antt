use Rattle.std.proofs.Common.{◌≡◌, ◌++◌, drop, map, string_bytes}
use Rattle.plan_answer.specs.Lines.{empty_lines}
use Rattle.plan_answer.proofs.lines.push_empty_places.Given as goal

abbrev pub invariant-loop-k : goal.invariant-loop-k
invariant-loop-k l = (l.text.items ++ empty_lines l.k (map string_bytes (drop l.k l.places)) l.taken ≡ l.fn.text.items ++ empty_lines 0 (map string_bytes l.places) l.taken)
