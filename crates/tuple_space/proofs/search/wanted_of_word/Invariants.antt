use Rattle.std.specs.List.{AllWithin}
use Rattle.tuple_space.specs.Index.{HasNoneWanted}
use Rattle.tuple_space.proofs.search.wanted_of_word.Given as goal

abbrev pub invariant-loop-i : goal.invariant-loop-i
invariant-loop-i l = AllWithin (HasNoneWanted l.word l.wanted l.moment l.template l.entries.items) l.buckets 0 l.i
