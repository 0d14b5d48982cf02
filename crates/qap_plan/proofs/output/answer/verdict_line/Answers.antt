use Rattle.std.proofs.Common.{◌≡◌, ◌∙◌, rules, true, append_assoc}
use Rattle.std.specs.Prelude.{int_lt}
use Rattle.std.proofs.lemmas.Int.{to_z-of_z}
use Rattle.std.proofs.lemmas.Result.{IfOk-weaker}
use Rattle.qap_plan.proofs.output.answer.verdict_line.Goals as goal

pub returns-then-bound-cost : goal.returns-then-bound-cost
returns-then-bound-cost c =
    let cost = c.ranges.cost in
    let bound = c.ranges.bound in
    let less : int_lt c.args.bound c.args.cost ≡ true = search rules in
    IfOk-weaker c.format.result _ _ (λ s e. e ∙ (simp (to_z-of_z, append_assoc, less))) c.format.ensures.ok
