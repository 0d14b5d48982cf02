-- Decided nodes in the order of their lists: each node precedes those below it.
use Rattle.std.specs.Prelude.{Bool, List}
use Rattle.std.specs.Cmp.Lexicographic.{slice_cmp}
use Rattle.std.specs.List.Sorted.{IsSortedBy}
use Rattle.std.specs.Ordering.{int_cmp, is_lt}
use Rattle.number_list.specs.NumberList.{numbers_held}
use Rattle.qap_search.specs.declared.tuples.parsing.DecidedNode.{DecidedNode}

-- the first number that differs decides, and a list precedes its extensions
abbrev pub is_before : DecidedNode → DecidedNode → Bool
is_before a b = is_lt (slice_cmp int_cmp (numbers_held a.node) (numbers_held b.node))

-- the nodes are sorted in that order
abbrev pub AreInOrder : List DecidedNode → Type 0
AreInOrder nodes = IsSortedBy is_before nodes
