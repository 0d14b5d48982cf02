-- Each word is read in its turn.
use Rattle.std.proofs.Common.{◌≡◌, ℕ, ◌+◌, List, ◌∷◌, [], ◌++◌, map, take, Bor, sym, subst, ap, ◌∙◌}
use Rattle.std.specs.List.{AllZip}
use Rattle.std.proofs.lemmas.List.{map-append}
use Rattle.tuple_match.specs.Pattern.{pattern_value, patterns_value}
use Rattle.tuple_match.specs.PatternValue.{PatternValue}
use Rattle.space_script.specs.Field.{IsPatternWord}
use Rattle.space_script.proofs.Cases.{none_of, some_of}
use Rattle.space_script.proofs.Zips.{spelled_more, unspelled}
use Rattle.space_script.proofs.fields.read_patterns.Goals as goal

pub returns-in_default : goal.returns-in_default
returns-in_default c = unspelled (λ word. word.now) IsPatternWord c.args.words.now c.loop-word.word-index _ c.loop-word-test.true (none_of _ _ _ c.in_ok-pattern.ensures c.in_default.is)

pub loop-word-preserved : goal.loop-word-preserved
loop-word-preserved c =
    let kept : patterns_value c.push.new.self.items ≡ patterns_value c.loop-word.patterns.items ++ pattern_value c.in-Some.pattern ∷ [] =
    ap patterns_value c.in_ok-push.ensures.items ∙ map-append pattern_value c.loop-word.patterns.items (c.in-Some.pattern ∷ []) in
    subst (λ (values : List PatternValue). AllZip IsPatternWord (take (c.loop-word.word-index + 1) (map (λ (word : Bor (List ℕ)). word.now) c.args.words.now)) values) (sym kept)
    (spelled_more (λ word. word.now) IsPatternWord c.args.words.now (patterns_value c.loop-word.patterns.items) c.loop-word.word-index _ (pattern_value c.in-Some.pattern)
    c.loop-word.invariant c.loop-word-test.true (some_of _ _ _ c.in-Some.pattern c.in_ok-pattern.ensures c.in-Some.is))
