use Rattle.std.proofs.Common.{◌≡◌, ◌∙◌, append_assoc}
use Rattle.std.proofs.lemmas.Result.{IfOk-weaker}
use Rattle.plan_picture.specs.Marks.{bent}
use Rattle.plan_picture.proofs.lines.line.Goals as goal

pub returns : goal.returns
returns c =
    let a = c.args.from.now in
    let b = c.args.to.now in
    let x : c.bent-bent_x.result ≡ bent a.x b.x a.y b.y = c.bent-bent_x.ensures in
    let y : c.bent-bent_y.result ≡ bent a.y b.y b.x a.x = c.bent-bent_y.ensures in
    IfOk-weaker c.format.result _ _ (λ s e. e ∙ simp (append_assoc, x, y)) c.format.ensures.ok
