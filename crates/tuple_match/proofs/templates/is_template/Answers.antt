use Rattle.std.proofs.Common.{rules}
use Rattle.std.proofs.lemmas.List.Elements.{All-map}
use Rattle.std.proofs.lemmas.List.{length-map}
use Rattle.tuple_match.specs.Pattern.{pattern_value}
use Rattle.tuple_match.specs.PatternValue.{IsPattern}
use Rattle.tuple_match.proofs.FieldLemmas.{All-from_map}
use Rattle.tuple_match.proofs.templates.is_template.Goals as goal

pub returns-then-patterns-le-MOST_FIELDS : goal.returns-then-patterns-le-MOST_FIELDS
returns-then-patterns-le-MOST_FIELDS c = (
  λ t. record {
    some = simp length-map (search rules);
    few = simp length-map (search rules);
    each = All-map IsPattern pattern_value c.args.patterns.now (c.are_within_limits.ensures.0 t);
  },
  λ h. c.are_within_limits.ensures.1 (All-from_map IsPattern pattern_value c.args.patterns.now h.each),
)
