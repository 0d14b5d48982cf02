use Rattle.std.proofs.Common.{◌∙◌, append_assoc}
use Rattle.std.proofs.lemmas.Int.{to_z-of_z}
use Rattle.std.proofs.lemmas.Result.{IfOk-weaker}
use Rattle.qap_text.proofs.gap.gap_line.Goals as goal

pub returns : goal.returns
returns c =
    let bound = c.ranges.bound in
    let cost = c.ranges.cost in
    IfOk-weaker c.format.result _ _ (λ s e. e ∙ (simp (to_z-of_z, append_assoc))) c.format.ensures.ok
