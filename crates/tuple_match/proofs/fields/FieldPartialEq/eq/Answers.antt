use Rattle.std.proofs.Common.{◌≡◌, ◌∙◌, rules, sym}
use Rattle.tuple_match.specs.Field.{field_value}
use Rattle.tuple_match.specs.Equality.{field_eq, Decides-field_eq}
use Rattle.tuple_match.proofs.fields.FieldPartialEq.eq.Goals as goal

pub returns-else-is_same_word-clause-same : goal.returns-else-is_same_word-clause-same
returns-else-is_same_word-clause-same c =
    let x = field_value c.args.self.now in
    let y = field_value c.args.other.now in
    let decides = Decides-field_eq x y in
    let test : c.is_same_list.result ≡ field_eq x y = search rules in
    (λ t. decides.0 (sym test ∙ t), λ h. test ∙ decides.1 h)
