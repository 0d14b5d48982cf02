use Rattle.std.proofs.Common.{length}
use Rattle.qap_improve.specs.Pair.{IsPairIfAny}
use Rattle.qap_improve.proofs.choice.choose.Given as goal

abbrev pub invariant-loop-r : goal.invariant-loop-r
invariant-loop-r g l = IsPairIfAny (length l.locations) l.may_move l.best.first l.best.second
