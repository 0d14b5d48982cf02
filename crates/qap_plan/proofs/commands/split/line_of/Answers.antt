use Rattle.std.proofs.Common.{◌≡◌, ◌∙◌, rules, false, append_assoc, nat_eq}
use Rattle.std.proofs.lemmas.Int.{to_z-of_z}
use Rattle.std.proofs.lemmas.Result.{IfOk-weaker}
use Rattle.qap_plan.proofs.commands.split.line_of.Goals as goal

pub returns-else-left-eq0 : goal.returns-else-left-eq0
returns-else-left-eq0 c =
    let cost = c.ranges.cost in
    let bound = c.ranges.bound in
    let some : nat_eq c.args.left 0 ≡ false = search rules in
    IfOk-weaker c.format-else-left-eq0.result _ _ (λ s e. e ∙ (simp (to_z-of_z, append_assoc, some))) c.format-else-left-eq0.ensures.ok
