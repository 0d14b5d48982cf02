use Rattle.std.specs.Prelude.{◌≡◌, ◌++◌, map, take}
use Rattle.space_txn.specs.Content.{added_of}
use Rattle.part_search.specs.Tuples.{node_tuple, open_of}
use Rattle.part_search.proofs.trying.write_all.Given as goal

abbrev pub invariant-loop-i : goal.invariant-loop-i
invariant-loop-i l = record {
  marks : l.txn.marks ≡ l.fn.txn.marks;
  added : added_of l.txn.writes ≡ added_of l.fn.txn.writes ++ map node_tuple (map open_of (take l.i l.opens));
}
