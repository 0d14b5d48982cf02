use Rattle.std.proofs.Common.{◌≡◌, ◌++◌, drop, map, string_bytes}
use Rattle.plan_report.specs.Rows.{place_rows}
use Rattle.plan_report.proofs.rows.push_departments.Given as goal

abbrev pub invariant-loop-i : goal.invariant-loop-i
invariant-loop-i l =
    (l.text.items ++ place_rows (map string_bytes (drop l.i l.departments)) (map string_bytes l.places) (drop l.i l.locations)
    ≡ l.fn.text.items ++ place_rows (map string_bytes l.departments) (map string_bytes l.places) l.locations)
