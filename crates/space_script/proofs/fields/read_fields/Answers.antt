-- Each word is read in its turn.
use Rattle.std.proofs.Common.{◌≡◌, ℕ, ◌+◌, List, ◌∷◌, [], ◌++◌, map, take, Bor, sym, subst, ap, ◌∙◌}
use Rattle.std.specs.List.{AllZip}
use Rattle.std.proofs.lemmas.List.{map-append}
use Rattle.tuple_match.specs.Field.{field_value, fields_value}
use Rattle.tuple_match.specs.FieldValue.{FieldValue}
use Rattle.space_script.specs.Field.{IsFieldWord}
use Rattle.space_script.proofs.Cases.{none_of, some_of}
use Rattle.space_script.proofs.Zips.{spelled_more, unspelled}
use Rattle.space_script.proofs.fields.read_fields.Goals as goal

pub returns-in_default : goal.returns-in_default
returns-in_default c = unspelled (λ word. word.now) IsFieldWord c.args.words.now c.loop-word.word-index _ c.loop-word-test.true (none_of _ _ _ c.in_ok-field.ensures c.in_default.is)

pub loop-word-preserved : goal.loop-word-preserved
loop-word-preserved c =
    let kept : fields_value c.push.new.self.items ≡ fields_value c.loop-word.fields.items ++ field_value c.in-Some.field ∷ [] =
    ap fields_value c.in_ok-push.ensures.items ∙ map-append field_value c.loop-word.fields.items (c.in-Some.field ∷ []) in
    subst (λ (values : List FieldValue). AllZip IsFieldWord (take (c.loop-word.word-index + 1) (map (λ (word : Bor (List ℕ)). word.now) c.args.words.now)) values) (sym kept)
    (spelled_more (λ word. word.now) IsFieldWord c.args.words.now (fields_value c.loop-word.fields.items) c.loop-word.word-index _ (field_value c.in-Some.field)
    c.loop-word.invariant c.loop-word-test.true (some_of _ _ _ c.in-Some.field c.in_ok-field.ensures c.in-Some.is))
