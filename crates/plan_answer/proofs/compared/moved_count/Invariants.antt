use Rattle.std.proofs.Common.{◌≡◌, ◌+◌, ◌≤◌, drop, map, string_bytes}
use Rattle.plan_answer.specs.Compared.{moved_count}
use Rattle.plan_answer.proofs.compared.moved_count.Given as goal

abbrev pub invariant-loop-i : goal.invariant-loop-i
invariant-loop-i l = record {
  few : l.moved ≤ l.i;
  left : l.moved + moved_count (map string_bytes (drop l.i l.departments)) (drop l.i l.today) (drop l.i l.best) ≡ moved_count (map string_bytes l.departments) l.today l.best;
}
