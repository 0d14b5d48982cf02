use Rattle.std.proofs.Common.{◌≡◌, ◌∙◌, sym}
use Rattle.tuple_match.specs.Field.{field_value}
use Rattle.tuple_match.specs.Equality.{field_eq, tuple_eq, Decides-tuple_eq}
use Rattle.tuple_match.proofs.FieldLemmas.{pointwise-map}
use Rattle.tuple_match.proofs.tuples.TuplePartialEq.eq.Goals as goal

pub returns-clause-test : goal.returns-clause-test
returns-clause-test c =
    rw (← c.fields.ensures.value, ← c.fields-2.ensures.value) (c.eq.ensures ∙ pointwise-map field_eq field_value c.fields.result.now c.fields-2.result.now)

pub returns-clause-same : goal.returns-clause-same
returns-clause-same c =
    let d = Decides-tuple_eq c.args.self.now c.args.other.now in
    let e : c.eq.result ≡ tuple_eq c.args.self.now c.args.other.now = returns-clause-test c in
    (λ t. d.0 (sym e ∙ t), λ h. e ∙ d.1 h)
