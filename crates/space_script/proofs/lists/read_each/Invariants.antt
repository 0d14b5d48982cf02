-- The words so far spell the numbers so far.
use Rattle.std.proofs.Common.{map, take}
use Rattle.std.specs.List.{AllZip}
use Rattle.space_script.specs.Number.{IsInteger}
use Rattle.space_script.proofs.lists.read_each.Given as goal

abbrev pub invariant-loop-word : goal.invariant-loop-word
invariant-loop-word l = AllZip IsInteger (take l.word-index (map (λ word. word.now) l.words)) l.numbers.items
