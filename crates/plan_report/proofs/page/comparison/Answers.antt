use Rattle.std.proofs.Common.{◌≡◌, ◌∙◌, [], refl}
use Rattle.std.specs.Prelude.{codes}
use Rattle.std.specs.Str.Lossy.{utf8_lossy}
use Rattle.std.proofs.lemmas.Result.{IfOk-weaker}
use Rattle.plan_picture.specs.Escaping.{escaped}
use Rattle.plan_picture.proofs.Joining.{behind, both}
use Rattle.plan_report.specs.Page.{compared_start}
use Rattle.plan_report.proofs.page.comparison.Goals as goal

pub returns : goal.returns
returns c =
    let words : c.deref.result.now ≡ escaped (utf8_lossy c.args.text.now) = c.deref.ensures.value ∙ c.in_ok-words.ensures in
    let parts = behind compared_start _ _ (both _ _ _ _ words (behind (codes "</pre>\n") [] [] refl)) in
    IfOk-weaker c.joined.result _ _ (λ v e. e ∙ parts) c.joined.ensures
