use Rattle.std.proofs.Common.{◌≡◌, ◌∙◌, [], refl}
use Rattle.std.proofs.lemmas.Result.{IfOk-weaker}
use Rattle.plan_picture.specs.Escaping.{escaped}
use Rattle.plan_picture.proofs.Joining.{behind, both}
use Rattle.plan_report.specs.Rows.{empty_start, row_end}
use Rattle.plan_report.proofs.rows.empty_row.Goals as goal

pub returns : goal.returns
returns c =
    let place : c.deref.result.now ≡ escaped c.args.place.now = c.deref.ensures.value ∙ c.in_ok-place.ensures in
    let parts = behind empty_start _ _ (both _ _ _ _ place (behind row_end [] [] refl)) in
    IfOk-weaker c.joined.result _ _ (λ v e. e ∙ parts) c.joined.ensures
