use Rattle.std.proofs.Common.{◌≡◌, ◌∙◌, rules, true, false, append_assoc}
use Rattle.std.specs.Prelude.{int_lt}
use Rattle.std.proofs.lemmas.Int.{to_z-of_z}
use Rattle.std.proofs.lemmas.Result.{IfOk-weaker}
use Rattle.qap_plan.proofs.commands.part.line_of.Goals as goal

pub returns-then-bound-cost : goal.returns-then-bound-cost
returns-then-bound-cost c =
    let cost = c.ranges.cost in
    let bound = c.ranges.bound in
    let less : int_lt c.args.bound c.args.cost ≡ true = search rules in
    IfOk-weaker c.format.result _ _ (λ s e. e ∙ (simp (to_z-of_z, append_assoc, less))) c.format.ensures.ok

pub returns-else-bound-cost : goal.returns-else-bound-cost
returns-else-bound-cost c =
    let cost = c.ranges.cost in
    let bound = c.ranges.bound in
    let less : int_lt c.args.bound c.args.cost ≡ false = search rules in
    IfOk-weaker c.format-else-bound-cost.result _ _ (λ s e. e ∙ (simp (to_z-of_z, append_assoc, less))) c.format-else-bound-cost.ensures.ok
