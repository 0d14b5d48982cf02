use Rattle.std.proofs.Common.{length}
use Rattle.qap_improve.specs.Pair.{IsPairIfAny}
use Rattle.qap_improve.proofs.choice.best_with.Given as goal

abbrev pub invariant-loop-s : goal.invariant-loop-s
invariant-loop-s g l = IsPairIfAny (length l.locations) l.may_move l.best.first l.best.second
