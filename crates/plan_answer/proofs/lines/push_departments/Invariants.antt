use Rattle.std.proofs.Common.{◌≡◌, ◌++◌, drop, map, string_bytes}
use Rattle.plan_answer.specs.Lines.{stands_lines}
use Rattle.plan_answer.proofs.lines.push_departments.Given as goal

abbrev pub invariant-loop-i : goal.invariant-loop-i
invariant-loop-i l =
    (l.text.items ++ stands_lines (map string_bytes (drop l.i l.departments)) (map string_bytes l.places) (drop l.i l.locations)
    ≡ l.fn.text.items ++ stands_lines (map string_bytes l.departments) (map string_bytes l.places) l.locations)
