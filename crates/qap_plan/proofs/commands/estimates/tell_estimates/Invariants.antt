use Rattle.qap_plan.specs.Estimates.{PrintsMany}
use Rattle.qap_plan.proofs.commands.estimates.tell_estimates.Given as goal

-- a line is printed on each part before this one
abbrev pub invariant-loop-k : goal.invariant-loop-k
invariant-loop-k g l = PrintsMany g.S.Sink.prints l.k l.fn.sink l.sink
