-- The words so far spell the fields so far.
use Rattle.std.proofs.Common.{map, take}
use Rattle.std.specs.List.{AllZip}
use Rattle.tuple_match.specs.Field.{fields_value}
use Rattle.space_script.specs.Field.{IsFieldWord}
use Rattle.space_script.proofs.fields.read_fields.Given as goal

abbrev pub invariant-loop-word : goal.invariant-loop-word
invariant-loop-word l = AllZip IsFieldWord (take l.word-index (map (λ word. word.now) l.words)) (fields_value l.fields.items)
