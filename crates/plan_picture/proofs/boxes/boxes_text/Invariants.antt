use Rattle.plan_picture.specs.Drawing.{IsPlace}
use Rattle.plan_picture.specs.Joining.{IsJoinedTo}
use Rattle.plan_picture.proofs.boxes.boxes_text.Given as goal

abbrev pub invariant-loop-k : goal.invariant-loop-k
invariant-loop-k l = IsJoinedTo (IsPlace l.problem l.permutation l.centres l.size) l.k l.text.items
