use Rattle.std.proofs.Common.{◌≡◌, ◌∙◌, [], List, ℤ, ℕ, ap, refl, rules, subst, to_z, of_z}
use Rattle.std.specs.Prelude.{int_lt}
use Rattle.std.specs.Int.{w128}
use Rattle.std.specs.Option.{option_map}
use Rattle.std.specs.Str.Lossy.{utf8_lossy}
use Rattle.std.proofs.lemmas.Int.{ints}
use Rattle.std.proofs.lemmas.Result.{IfOk-weaker}
use Rattle.plan_answer.specs.Answer.{IsVerdictText}
use Rattle.plan_picture.specs.Escaping.{escaped}
use Rattle.plan_picture.proofs.Joining.{behind, both}
use Rattle.plan_report.specs.Page.{check_start, compared_part, figure_start, footer_start, page_end, page_start, pairs_start, places_start, proof_note, style, verdict_end, verdict_start}
use Rattle.plan_report.specs.Rows.{places_table}
use Rattle.plan_report.proofs.page.report_page.Goals as goal

pub returns : goal.returns
returns c =
    let P = c.args.problem.now in
    let p = c.args.permutation.now in
    let r = c.args.report.now in
    let words = c.in_ok-words.words.items in
    let picture = c.in_ok-drawing.drawing.items in
    let pairs = c.in_ok-pairs.pairs.items in
    let title : c.deref-2.result.now ≡ escaped r.title.now = c.deref-2.ensures.value ∙ c.in_ok-title.ensures in
    let again : c.deref-3.result.now ≡ escaped r.title.now = c.deref-3.ensures.value ∙ c.in_ok-title.ensures in
    let verdict : c.deref-4.result.now ≡ escaped (utf8_lossy words) = c.deref-4.ensures.value ∙ c.in_ok-verdict.ensures ∙ ap (λ (bs : List ℕ). escaped (utf8_lossy bs)) c.deref.ensures.value in
    let note : c.proof_note.result.now ≡ proof_note (int_lt c.args.bound c.args.cost) = search (rules, ints) in
    let compared : c.deref-5.result.now ≡ compared_part (option_map (λ compared. compared.now) r.compared) = c.deref-5.ensures.value ∙ c.in_ok-compared.ensures in
    let places : c.deref-7.result.now ≡ places_table P p = c.deref-7.ensures.value ∙ c.in_ok-places.ensures in
    let commands : c.deref-9.result.now ≡ escaped c.as_str.result.now = c.deref-9.ensures.value ∙ c.in_ok-commands-2.ensures in
    let version : c.deref-10.result.now ≡ escaped r.version.now = c.deref-10.ensures.value ∙ c.in_ok-version.ensures in
    let proved : IsVerdictText P c.args.cost c.args.bound words = search (rules, ints) in
    let check = behind check_start _ _ (both _ _ _ _ commands (behind footer_start _ _ (both _ _ _ _ version (behind page_end [] [] refl)))) in
    let tables = behind places_start _ _ (both _ _ _ _ places (behind pairs_start _ _ (both _ _ _ _ c.deref-8.ensures.value check))) in
    let drawn = both _ _ _ _ note (both _ _ _ _ compared (behind figure_start _ _ (both _ _ _ _ c.deref-6.ensures.value tables))) in
    let said = behind verdict_start _ _ (both _ _ _ _ verdict (behind verdict_end _ _ drawn)) in
    let parts = behind page_start _ _ (both _ _ _ _ title (behind style _ _ (both _ _ _ _ again said))) in
    IfOk-weaker
    c.joined.result
    _
    _
    (λ v e. record {
      verdict = words;
      picture = picture;
      pairs = pairs;
      commands = c.as_str.result.now;
      proved = proved;
      drawn = c.in_ok-drawing.ensures;
      dearest = c.in_ok-pairs.ensures;
      is = e ∙ parts;
    })
    c.joined.ensures
