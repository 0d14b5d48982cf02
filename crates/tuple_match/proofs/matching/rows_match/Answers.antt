use Rattle.std.proofs.Common.{◌≡◌, length, rules, arith, IsTrue}
use Rattle.std.proofs.lemmas.List.{length-map}
use Rattle.std.proofs.lemmas.Slice.Zip.{AllZip-long}
use Rattle.std.proofs.lemmas.Iterator.{YieldsList-from_slice, YieldsList-from_zip, cases_from_all}
use borrow.Author.Tests.{tests}
use Rattle.std.specs.Prelude.{All}
use Rattle.std.specs.List.{zip}
use Rattle.tuple_match.specs.declared.fields.Field.{Field}
use Rattle.tuple_match.specs.declared.templates.Pattern.{Pattern}
use Rattle.tuple_match.specs.Field.{field_value, fields_value}
use Rattle.tuple_match.specs.Pattern.{pattern_value, patterns_value}
use Rattle.tuple_match.specs.PatternValue.{FieldMatches}
use Rattle.tuple_match.proofs.MatchingLemmas.{AllZip-from_pairs, pairs_from_AllZip, all_decides}
use Rattle.tuple_match.proofs.matching.rows_match.Goals as goal

pub returns-then-patterns-fields : goal.returns-then-patterns-fields
returns-then-patterns-fields c =
    let patterns = c.args.patterns.now in
    let fields = c.args.fields.now in
    let P : Pattern × Field → Type 0 = λ p. FieldMatches (pattern_value p.0) (field_value p.1) in
    let each : (IsTrue c.all.result → All P (zip patterns fields)) × (All P (zip patterns fields) → IsTrue c.all.result) = all_decides P (zip patterns fields) c.all.result
    (cases_from_all c.all.new.self _ c.all.result P (λ p. P p → ⊥) c.all.ensures.ran
    (YieldsList-from_zip (YieldsList-from_slice patterns cc) (YieldsList-from_slice fields cc))
    (λ x q k. search (rules, tests))
    (λ x q k. search (rules, tests))) in (
      λ t. AllZip-from_pairs FieldMatches pattern_value field_value patterns fields (omega arith) (each.0 t),
      λ h. each.1 (pairs_from_AllZip FieldMatches pattern_value field_value patterns fields h),
    )

pub returns-else-patterns-fields : goal.returns-else-patterns-fields
returns-else-patterns-fields c = (
  λ t. absurd (search rules),
  λ h. let e : length (fields_value c.args.fields.now) ≡ length (patterns_value c.args.patterns.now) = AllZip-long FieldMatches _ _ h in
      let f : length (patterns_value c.args.patterns.now) ≡ length c.args.patterns.now = length-map c.args.patterns.now pattern_value in
      let g : length (fields_value c.args.fields.now) ≡ length c.args.fields.now = length-map c.args.fields.now field_value in
      absurd (omega arith),
)
