use Rattle.plan_picture.specs.Drawing.{flow_mark}
use Rattle.plan_picture.proofs.Joining.{one_more}
use Rattle.plan_picture.proofs.lines.push_lines_of.Goals as goal

pub loop-j-preserved : goal.loop-j-preserved
loop-j-preserved c =
    let drawn = c.args.arrangement.now in
    let f = flow_mark drawn.instance.now drawn.permutation.now drawn.centres.now c.args.i in
    one_more f c.loop-j.j _ _ _ c.loop-j.invariant c.in_ok-push_flow.ensures
