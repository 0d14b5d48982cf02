-- The words so far spell the patterns so far.
use Rattle.std.proofs.Common.{map, take}
use Rattle.std.specs.List.{AllZip}
use Rattle.tuple_match.specs.Pattern.{patterns_value}
use Rattle.space_script.specs.Field.{IsPatternWord}
use Rattle.space_script.proofs.fields.read_patterns.Given as goal

abbrev pub invariant-loop-word : goal.invariant-loop-word
invariant-loop-word l = AllZip IsPatternWord (take l.word-index (map (λ word. word.now) l.words)) (patterns_value l.patterns.items)
