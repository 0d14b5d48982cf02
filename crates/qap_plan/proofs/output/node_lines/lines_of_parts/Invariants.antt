use Rattle.std.proofs.Common.{◌≡◌, ◌++◌, drop}
use Rattle.qap_plan.specs.NodeLines.{node_lines}
use Rattle.qap_plan.proofs.output.node_lines.lines_of_parts.Given as goal

abbrev pub invariant-loop-part : goal.invariant-loop-part
invariant-loop-part l = (l.text.items ++ node_lines (drop l.part-index l.parts) ≡ node_lines l.parts)
