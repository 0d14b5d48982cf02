use Rattle.qap_cost.proofs.Scatter.{HasPut}
use Rattle.qap_cost.proofs.completion.put_each.Given as goal

abbrev pub invariant-loop-t : goal.invariant-loop-t
invariant-loop-t l = HasPut l.positions l.values l.initial.target.items l.target.items l.t
