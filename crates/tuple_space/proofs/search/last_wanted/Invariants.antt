use Rattle.std.proofs.Common.{length}
use Rattle.std.specs.List.{AllWithin}
use Rattle.tuple_space.specs.Index.{IsUnwanted}
use Rattle.tuple_space.proofs.search.last_wanted.Given as goal

abbrev pub invariant-loop-i : goal.invariant-loop-i
invariant-loop-i l = AllWithin (IsUnwanted l.wanted l.moment l.template l.entries.items) l.numbers l.i (length l.numbers)
