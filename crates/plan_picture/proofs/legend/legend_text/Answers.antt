use Rattle.std.proofs.Common.{◌∙◌, refl}
use Rattle.std.proofs.lemmas.Result.{IfOk-weaker}
use Rattle.plan_picture.proofs.Joining.{both}
use Rattle.plan_picture.proofs.legend.legend_text.Goals as goal

pub returns : goal.returns
returns c =
    let head = c.as_bytes.ensures.value ∙ c.in_ok-head.ensures in
    let lines =
    both _ _ _ _ c.flow_lines.ensures (both _ _ _ _ c.fixed_line.ensures (both _ _ _ _ c.empty_line.ensures (both _ _ _ _ c.scale_line.ensures refl))) in
    IfOk-weaker c.joined.result _ _ (λ v e. e ∙ both _ _ _ _ head lines) c.joined.ensures
