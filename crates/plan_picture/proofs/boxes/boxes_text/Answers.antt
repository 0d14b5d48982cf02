use Rattle.std.proofs.Common.{◌++◌, ◌∙◌, List, ℕ, ap}
use Rattle.plan_picture.specs.Drawing.{IsPlace}
use Rattle.plan_picture.proofs.Joining.{joined_more}
use Rattle.plan_picture.proofs.boxes.boxes_text.Goals as goal

pub loop-k-preserved : goal.loop-k-preserved
loop-k-preserved c =
    let M = IsPlace c.args.problem.now c.args.permutation.now c.args.centres.now c.args.size in
    let more = c.in_ok-extend_from_slice.ensures.items ∙ ap (λ (bs : List ℕ). c.loop-k.text.items ++ bs) c.deref.ensures.value in
    joined_more M c.loop-k.k _ _ _ c.loop-k.invariant c.in_ok-place.ensures more
