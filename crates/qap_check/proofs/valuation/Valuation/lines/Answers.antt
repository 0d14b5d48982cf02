use Rattle.std.proofs.Common.{◌∙◌, rules, append_assoc}
use Rattle.std.specs.Int.{w128}
use Rattle.std.specs.Prelude.{FitsSigned}
use Rattle.std.proofs.lemmas.Int.{to_z-of_z}
use Rattle.std.proofs.lemmas.Result.{IfOk-weaker}
use Rattle.qap_check.proofs.valuation.Valuation.lines.Goals as goal

pub returns : goal.returns
returns c =
    let cost : FitsSigned w128 c.args.self.now.cost = search rules in
    let inverse : FitsSigned w128 c.args.self.now.inverse = search rules in
    let stated : FitsSigned w128 c.args.self.now.stated = search rules in
    IfOk-weaker c.format.result _ _ (λ s e. e ∙ (simp (to_z-of_z, append_assoc, c.name-name.ensures))) c.format.ensures.ok
