use Rattle.std.proofs.Common.{◌≡◌, ◌++◌}
use Rattle.plan_picture.specs.Drawing.{flow_mark}
use Rattle.plan_picture.specs.Joining.{joined_to}
use Rattle.plan_picture.proofs.lines.push_lines.Given as goal

abbrev pub invariant-loop-i : goal.invariant-loop-i
invariant-loop-i l = (l.text.items ≡ l.initial.text.items ++ joined_to (λ i. joined_to (flow_mark l.instance l.permutation l.centres i) i) l.i)
