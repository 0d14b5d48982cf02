use Rattle.std.proofs.Common.{append_assoc}
use Rattle.plan_answer.proofs.stated.push_range.Goals as goal

pub returns : goal.returns
returns c =
    let stated = c.in_ok-extend_from_slice.ensures.items in
    let range = c.in_ok-push_between.ensures in
    let kept = c.in_ok-extend_from_slice-2.ensures.items in
    let ended = c.in_ok-extend_from_slice-3.ensures.items in
    rw (ended, kept, range, stated) (simp append_assoc)
