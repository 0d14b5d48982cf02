use Rattle.std.proofs.Common.{◌≡◌, ◌++◌, drop, map, string_bytes}
use Rattle.plan_answer.specs.Compared.{move_lines}
use Rattle.plan_answer.proofs.compared.push_moves.Given as goal

abbrev pub invariant-loop-i : goal.invariant-loop-i
invariant-loop-i l =
    (l.text.items ++ move_lines (map string_bytes (drop l.i l.departments)) (map string_bytes l.places) (drop l.i l.today) (drop l.i l.best)
    ≡ l.fn.text.items ++ move_lines (map string_bytes l.departments) (map string_bytes l.places) l.today l.best)
