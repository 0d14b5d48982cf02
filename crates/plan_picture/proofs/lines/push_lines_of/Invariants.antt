use Rattle.std.proofs.Common.{◌≡◌, ◌++◌}
use Rattle.plan_picture.specs.Drawing.{flow_mark}
use Rattle.plan_picture.specs.Joining.{joined_to}
use Rattle.plan_picture.proofs.lines.push_lines_of.Given as goal

abbrev pub invariant-loop-j : goal.invariant-loop-j
invariant-loop-j l = (l.text.items ≡ l.fn.text.items ++ joined_to (flow_mark l.arrangement.instance.now l.arrangement.permutation.now l.arrangement.centres.now l.i) l.j)
