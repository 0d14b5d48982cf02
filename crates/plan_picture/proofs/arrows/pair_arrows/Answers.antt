use Rattle.std.proofs.Common.{◌≡◌, ◌++◌, ◌∙◌, List, ℕ, ap, arith, get_or, length, string_bytes, subst}
use Rattle.plan_answer.specs.declared.pairs.Pair.{Pair}
use Rattle.plan_picture.specs.Arrows.{IsArrow, no_pair}
use Rattle.plan_picture.specs.Joining.{IsJoinedTo}
use Rattle.plan_picture.proofs.Joining.{joined_more}
use Rattle.plan_picture.proofs.arrows.pair_arrows.Goals as goal

pub loop-pair-preserved : goal.loop-pair-preserved
loop-pair-preserved c =
    let pairs = c.args.pairs.now in
    let p = c.args.permutation.now in
    let centres = c.args.centres.now in
    let most = c.first_cost-most.result in
    let pair : Pair = get_or pairs c.loop-pair.pair-index no_pair in
    let M = λ (k : ℕ). IsArrow p centres c.args.size most (get_or pairs k no_pair) in
    let bytes = string_bytes c.in_ok-arrow.arrow in
    let arrow : IsArrow p centres c.args.size most pair bytes =
    subst (λ (l : List ℕ). IsArrow l centres c.args.size most pair bytes) c.locations.ensures.value c.in_ok-arrow.ensures in
    let more = c.in_ok-extend_from_slice.ensures.items ∙ ap (λ (bs : List ℕ). c.loop-pair.text.items ++ bs) c.as_bytes.ensures.value in
    joined_more M c.loop-pair.pair-index _ _ _ c.loop-pair.invariant arrow more

pub returns : goal.returns
returns c =
    let pairs = c.args.pairs.now in
    let end : c.loop-pair.pair-index ≡ length pairs = omega arith in
    let M = λ (most k : ℕ). IsArrow c.args.permutation.now c.args.centres.now c.args.size most (get_or pairs k no_pair) in
    let all = subst (λ (n : ℕ). IsJoinedTo (M c.first_cost-most.result) n c.loop-pair.text.items) end c.loop-pair.invariant in
    subst (λ (most : ℕ). IsJoinedTo (M most) (length pairs) c.loop-pair.text.items) c.first_cost-most.ensures all
