use Rattle.std.proofs.Common.{◌≡◌, ◌++◌, drop, map, string_bytes}
use Rattle.plan_report.specs.Rows.{empty_rows}
use Rattle.plan_report.proofs.rows.push_empty_places.Given as goal

abbrev pub invariant-loop-k : goal.invariant-loop-k
invariant-loop-k l = (l.text.items ++ empty_rows l.k (map string_bytes (drop l.k l.places)) l.taken ≡ l.fn.text.items ++ empty_rows 0 (map string_bytes l.places) l.taken)
