-- Each field goes behind a space.
use Rattle.std.proofs.Common.{◌≡◌, ◌++◌, ◌∷◌, [], ◌+◌, map, take, ◌∙◌, ap, sym, subst, ◌<◌}
use Rattle.std.proofs.lemmas.List.{take_more, get_or-map, length-map}
use Rattle.tuple_match.specs.Field.{field_value}
use Rattle.space_script.specs.Reply.{fields_text}
use Rattle.space_script.proofs.Replies.{field_pushed}
use Rattle.space_script.proofs.reply.push_fields.Goals as goal

pub loop-field-preserved : goal.loop-field-preserved
loop-field-preserved c =
    let start = c.args.line.now.items in
    let fields = c.args.fields.now in
    let values = map field_value fields in
    let i = c.loop-field.field-index in
    let there = c.loop-field-test.true in
    let item = c.field-item.result in
    let last : take (i + 1) values ≡ take i values ++ field_value item ∷ [] =
    take_more values i (field_value item) (subst (λ n. i < n) (sym (length-map fields field_value)) there)
    ∙ ap (λ x. take i values ++ x ∷ []) (get_or-map field_value fields i item (field_value item) there ∙ ap field_value (sym c.field-item.is)) in
    field_pushed start c.loop-field.line.items c.push_field.new.line.items (take i values) (field_value item) c.loop-field.invariant c.in_ok-push_field.ensures
    ∙ ap (λ l. start ++ fields_text l) (sym last)
