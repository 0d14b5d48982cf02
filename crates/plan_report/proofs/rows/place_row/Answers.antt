use Rattle.std.proofs.Common.{◌≡◌, ◌∙◌, [], refl}
use Rattle.std.proofs.lemmas.Result.{IfOk-weaker}
use Rattle.plan_picture.specs.Escaping.{escaped}
use Rattle.plan_picture.proofs.Joining.{behind, both}
use Rattle.plan_report.specs.Rows.{cell, row_end, row_start}
use Rattle.plan_report.proofs.rows.place_row.Goals as goal

pub returns : goal.returns
returns c =
    let department : c.deref.result.now ≡ escaped c.args.department.now = c.deref.ensures.value ∙ c.in_ok-department.ensures in
    let place : c.deref-2.result.now ≡ escaped c.args.place.now = c.deref-2.ensures.value ∙ c.in_ok-place.ensures in
    let parts = behind row_start _ _ (both _ _ _ _ department (behind cell _ _ (both _ _ _ _ place (behind row_end [] [] refl)))) in
    IfOk-weaker c.joined.result _ _ (λ v e. e ∙ parts) c.joined.ensures
