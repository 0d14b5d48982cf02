use Rattle.std.proofs.Common.{get_or}
use Rattle.plan_picture.specs.Arrows.{no_pair}
use Rattle.plan_picture.specs.Joining.{IsJoinedTo}
use Rattle.plan_report.specs.Pairs.{IsPairRow}
use Rattle.plan_report.proofs.pairs.rows_of.Given as goal

abbrev pub invariant-loop-pair : goal.invariant-loop-pair
invariant-loop-pair l = IsJoinedTo (λ k. IsPairRow l.problem (get_or l.pairs k no_pair)) l.pair-index l.text.items
