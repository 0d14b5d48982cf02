use Rattle.qap_cost.proofs.MarkTables.{Marks}
use Rattle.qap_cost.proofs.marks.marked.Given as goal

abbrev pub invariant-loop-number : goal.invariant-loop-number
invariant-loop-number l = Marks l.numbers l.marks l.number-index
