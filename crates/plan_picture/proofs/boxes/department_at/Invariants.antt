use Rattle.std.proofs.Common.{◌≡◌, drop, map, string_bytes}
use Rattle.plan_picture.specs.Drawing.{department_at}
use Rattle.plan_picture.proofs.boxes.department_at.Given as goal

abbrev pub invariant-loop-i : goal.invariant-loop-i
invariant-loop-i l = (department_at (map string_bytes (drop l.i l.departments)) (drop l.i l.locations) l.k ≡ department_at (map string_bytes l.departments) l.locations l.k)
