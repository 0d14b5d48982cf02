use Rattle.std.proofs.Common.{◌≡◌, ◌++◌, drop, map, string_bytes}
use Rattle.plan_answer.specs.Layout.{csv_lines}
use Rattle.plan_answer.proofs.layout.push_lines.Given as goal

abbrev pub invariant-loop-i : goal.invariant-loop-i
invariant-loop-i l =
    (l.text.items ++ csv_lines (map string_bytes (drop l.i l.departments)) (map string_bytes l.places) (drop l.i l.locations)
    ≡ l.fn.text.items ++ csv_lines (map string_bytes l.departments) (map string_bytes l.places) l.locations)
