use Rattle.std.proofs.Common.{◌≡◌, ◌++◌, ◌∙◌, List, ℕ, ap, arith, get_or, length, subst}
use Rattle.plan_picture.specs.Arrows.{no_pair}
use Rattle.plan_picture.specs.Joining.{IsJoinedTo}
use Rattle.plan_picture.proofs.Joining.{joined_more}
use Rattle.plan_report.specs.Pairs.{IsPairRow}
use Rattle.plan_report.proofs.pairs.rows_of.Goals as goal

pub loop-pair-preserved : goal.loop-pair-preserved
loop-pair-preserved c =
    let M = λ (k : ℕ). IsPairRow c.args.problem.now (get_or c.args.pairs.now k no_pair) in
    let more = c.in_ok-extend_from_slice.ensures.items ∙ ap (λ (bs : List ℕ). c.loop-pair.text.items ++ bs) c.deref.ensures.value in
    joined_more M c.loop-pair.pair-index _ _ _ c.loop-pair.invariant c.in_ok-row.ensures more

pub returns : goal.returns
returns c =
    let pairs = c.args.pairs.now in
    let end : c.loop-pair.pair-index ≡ length pairs = omega arith in
    let M = λ (k : ℕ). IsPairRow c.args.problem.now (get_or pairs k no_pair) in
    subst (λ (n : ℕ). IsJoinedTo M n c.loop-pair.text.items) end c.loop-pair.invariant
