use Rattle.std.proofs.Common.{◌≡◌, ◌∙◌, [], List, ℤ, ℕ, ap, refl, rules, subst, to_z, of_z}
use Rattle.std.specs.Int.{w128}
use Rattle.std.specs.Str.Lossy.{utf8_lossy}
use Rattle.std.proofs.lemmas.Int.{ints}
use Rattle.std.proofs.lemmas.Result.{IfOk-weaker}
use Rattle.plan_table.specs.Spelling.{Spells}
use Rattle.plan_answer.specs.Answer.{cost_scale}
use Rattle.plan_picture.specs.Escaping.{escaped}
use Rattle.plan_picture.proofs.Joining.{behind, both}
use Rattle.plan_report.specs.Pairs.{department_name, number_cell}
use Rattle.plan_report.specs.Rows.{cell, row_end, row_start}
use Rattle.plan_report.proofs.pairs.pair_row.Goals as goal

pub returns : goal.returns
returns c =
    let P = c.args.problem.now in
    let pair = c.args.pair.now in
    let words = c.in_ok-cost.cost.items in
    let same : to_z w128 (of_z w128 c.from.result) ≡ pair.cost = search (rules, ints) in
    let spelled : Spells words pair.cost (cost_scale P) = subst (λ (z : ℤ). Spells words z (cost_scale P)) same c.in_ok-cost.ensures in
    let from : c.deref-2.result.now ≡ escaped (department_name P pair.from) = c.deref-2.ensures.value ∙ c.in_ok-from.ensures ∙ ap escaped c.department_name.ensures in
    let to : c.deref-3.result.now ≡ escaped (department_name P pair.to) = c.deref-3.ensures.value ∙ c.in_ok-to.ensures ∙ ap escaped c.department_name-2.ensures in
    let cost : c.deref-4.result.now ≡ escaped (utf8_lossy words) = c.deref-4.ensures.value ∙ c.in_ok-cost-2.ensures ∙ ap (λ (bs : List ℕ). escaped (utf8_lossy bs)) c.deref.ensures.value in
    let end = both _ _ _ _ to (behind number_cell _ _ (both _ _ _ _ cost (behind row_end [] [] refl))) in
    let parts = behind row_start _ _ (both _ _ _ _ from (behind cell _ _ end)) in
    IfOk-weaker c.joined.result _ _ (λ v e. record { cost = words; spelled = spelled; is = e ∙ parts }) c.joined.ensures
