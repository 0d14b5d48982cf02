use Rattle.std.proofs.Common.{get_or}
use Rattle.plan_picture.specs.Arrows.{IsArrow, no_pair}
use Rattle.plan_picture.specs.Joining.{IsJoinedTo}
use Rattle.plan_picture.proofs.arrows.pair_arrows.Given as goal

abbrev pub invariant-loop-pair : goal.invariant-loop-pair
invariant-loop-pair l = IsJoinedTo (λ k. IsArrow l.permutation l.centres l.size l.most (get_or l.pairs k no_pair)) l.pair-index l.text.items
