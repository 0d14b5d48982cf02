use Rattle.std.proofs.Common.{◌≡◌, ◌-◌, ◌/◌, ◌∙◌, append_assoc}
use Rattle.std.proofs.lemmas.Result.{IfOk-weaker}
use Rattle.plan_picture.proofs.boxes.box_line.Goals as goal

pub returns : goal.returns
returns c =
    let x : c.saturating_sub-x.result ≡ c.args.centre.now.x - c.args.size.width / 2 = c.saturating_sub-x.ensures in
    let y : c.saturating_sub-y.result ≡ c.args.centre.now.y - c.args.size.height / 2 = c.saturating_sub-y.ensures in
    IfOk-weaker c.format.result _ _ (λ s e. e ∙ simp (append_assoc, x, y)) c.format.ensures.ok
