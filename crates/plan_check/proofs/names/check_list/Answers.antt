use Rattle.std.proofs.Common.{◌≡◌, ◌∙◌, ap, map, refl, Some, sym}
use Rattle.std.specs.Prelude.{string_bytes}
use Rattle.serde_json.specs.Data.{string}
use Rattle.serde_json.specs.View.{view}
use Rattle.plan_check.proofs.Reasons.{at_place, name_at}
use Rattle.plan_check.proofs.names.check_list.Goals as goal

pub returns : goal.returns
returns c =
    let items = c.in-Some-items_in.items.now in
    let names = c.args.names.now in
    let i = c.in-Some-other_name.i in
    let other = c.in-Some-other_name.ensures in
    let name = c.index-names-i.result in
    let same : string_bytes c.in_ok-name.name ≡ string_bytes name = c.in_ok-name.ensures.cases in (
      refl,
      map view items,
      c.in-Some.ensures ∙ ap Some c.in-Some-items_in.ensures,
      i,
      refl,
      at_place string_bytes names i name other.0 c.index-names-i.is ∙ ap Some (sym same),
      λ equal. other.1 (equal ∙ ap (λ bytes. Some (string bytes)) same ∙ sym (name_at names i name other.0 c.index-names-i.is)),
    )
