use Rattle.part_search.specs.Answer.{SurveysFirst}
use Rattle.part_search.proofs.answer.surveyed.Given as goal

abbrev pub invariant-loop-i : goal.invariant-loop-i
invariant-loop-i l = SurveysFirst l.instance l.tuples l.i l.all
