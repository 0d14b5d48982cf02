-- The words spell one row of patterns, and it breaks the limits of a template.
use Rattle.std.proofs.Common.{map}
use Rattle.std.proofs.lemmas.Bool.{false≢true}
use Rattle.tuple_match.specs.Pattern.{patterns_value}
use Rattle.space_script.proofs.Cases.{some_of}
use Rattle.space_script.proofs.OneField.{no_template}
use Rattle.space_script.proofs.fields.read_template.Goals as goal

pub returns : goal.returns
returns c = no_template (map (λ word. word.now) c.args.words.now) (patterns_value c.in-Some.patterns.items)
    (some_of _ _ _ c.in-Some.patterns c.in_ok-patterns.ensures c.in-Some.is) (λ limits. false≢true (c.in-Err.ensures.accepted.1 limits))
