use Rattle.std.proofs.Common.{◌≡◌, ◌++◌, ◌∙◌, List, ℕ, ap, arith, length, refl, subst}
use Rattle.std.specs.Prelude.{nat_lt}
use Rattle.std.specs.Str.Lossy.{utf8_lossy}
use Rattle.std.proofs.lemmas.Result.{IfOk-weaker}
use Rattle.plan_answer.specs.Answer.{has_fixed}
use Rattle.plan_picture.specs.Arrows.{AreArrows}
use Rattle.plan_picture.specs.Drawing.{IsPlace, flow_marks, opening_text, title_style, verdict_style}
use Rattle.plan_picture.specs.Joining.{IsJoinedTo}
use Rattle.plan_picture.specs.Legend.{legend_text}
use Rattle.plan_picture.specs.Naming.{AreNames}
use Rattle.plan_picture.specs.declared.layout.Centre.{Centre}
use Rattle.plan_picture.proofs.Joining.{both}
use Rattle.plan_picture.proofs.drawing.picture.Goals as goal

pub returns : goal.returns
returns c =
    let P = c.args.problem.now in
    let p = c.args.permutation.now in
    let title = c.args.caption.now.title.now in
    let layout = c.in_ok-layout.layout in
    let centres = layout.centres.items in
    let width = c.width_for-width.result in
    let height = c.saturating_add.result in
    let size = c.in_ok-size.size in
    let top = c.in_ok-top.top in
    let names = c.in_ok-names.names.items in
    let boxes = c.in_ok-boxes.boxes.items in
    let arrows = c.in_ok-arrows.arrows.items in
    let departments : c.len-2.result ≡ length P.departments.items = omega (arith, c.len-2.ensures, P.departments.ok.0) in
    let places : c.len-3.result ≡ length P.places.items = omega (arith, c.len-3.ensures, P.places.ok.0) in
    let opening : c.as_bytes.result.now ≡ opening_text width height = c.as_bytes.ensures.value ∙ c.in_ok-opening.ensures in
    let flows : c.deref-6.result.now ≡ flow_marks P.instance p centres =
    c.deref-6.ensures.value
    ∙ c.in_ok-push_lines.ensures
    ∙ ap (λ (t : List ℕ). t ++ flow_marks P.instance p c.deref-4.result.now) c.new-flows.ensures.items
    ∙ ap (λ (cs : List Centre). flow_marks P.instance p cs) c.deref-4.ensures.value in
    let legend : c.deref-9.result.now ≡ legend_text (has_fixed P) (nat_lt (length P.departments.items) (length P.places.items)) layout.is_scaled layout.height =
    c.deref-9.ensures.value
    ∙ c.in_ok-legend.ensures
    ∙ ap (λ (n : ℕ). legend_text (nat_lt 0 n) (nat_lt c.len-2.result c.len-3.result) layout.is_scaled layout.height) c.depth-is_fixed.ensures.value
    ∙ ap (λ (n : ℕ). legend_text (has_fixed P) (nat_lt n c.len-3.result) layout.is_scaled layout.height) departments
    ∙ ap (λ (n : ℕ). legend_text (has_fixed P) (nat_lt (length P.departments.items) n) layout.is_scaled layout.height) places in
    let parts =
    both _ _ _ _ opening
    (both _ _ _ _ c.deref-5.ensures.value
    (both _ _ _ _ flows (both _ _ _ _ c.deref-7.ensures.value (both _ _ _ _ c.deref-8.ensures.value (both _ _ _ _ legend refl))))) in
    IfOk-weaker
    c.joined.result
    _
    _
    (λ v e. record {
      width = width;
      height = height;
      size = size;
      centres = centres;
      top = top;
      bottom = layout.height;
      is_scaled = layout.is_scaled;
      caption = names;
      places = boxes;
      arrows = arrows;
      each = omega (arith, c.in_ok-layout.ensures, c.len.ensures, P.places.ok.0);
      captioned =
          subst
          (λ (words : List ℕ). AreNames top title title_style words verdict_style names)
          (c.as_str-3.ensures.value ∙ c.in_ok-verdict.ensures.lossy)
          c.in_ok-names.ensures;
      placed =
          subst
          (λ (cs : List Centre). IsJoinedTo (IsPlace P p cs size) (length P.places.items) boxes)
          c.deref-2.ensures.value
          c.in_ok-boxes.ensures;
      pointed = subst (λ (cs : List Centre). AreArrows P.instance p cs size arrows) c.deref-3.ensures.value c.in_ok-arrows.ensures;
      is = e ∙ parts;
    })
    c.joined.ensures
