use Rattle.std.proofs.Common.{◌≡◌}
use Rattle.plan_picture.specs.Flows.{flow_between, largest_to}
use Rattle.plan_picture.proofs.lines.largest_flow.Given as goal

abbrev pub invariant-loop-i : goal.invariant-loop-i
invariant-loop-i l = (l.most ≡ largest_to (λ i. largest_to (flow_between l.instance i) i) l.i)
