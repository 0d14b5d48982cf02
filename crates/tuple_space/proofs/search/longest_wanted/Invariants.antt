use Rattle.std.proofs.Common.{length}
use Rattle.std.specs.List.{AllWithin}
use Rattle.std.specs.Prelude.{All}
use Rattle.tuple_space.specs.Index.{IsUnwanted}
use Rattle.tuple_space.proofs.search.longest_wanted.Given as goal

abbrev pub invariant-loop-i : goal.invariant-loop-i
invariant-loop-i l = AllWithin (All (IsUnwanted l.wanted l.moment l.template l.entries.items)) l.lists l.i (length l.lists)
