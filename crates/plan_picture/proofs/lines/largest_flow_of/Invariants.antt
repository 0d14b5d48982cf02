use Rattle.std.proofs.Common.{◌≡◌}
use Rattle.plan_picture.specs.Flows.{flow_between, largest_to}
use Rattle.plan_picture.proofs.lines.largest_flow_of.Given as goal

abbrev pub invariant-loop-j : goal.invariant-loop-j
invariant-loop-j l = (l.most ≡ largest_to (flow_between l.instance l.i) l.j)
