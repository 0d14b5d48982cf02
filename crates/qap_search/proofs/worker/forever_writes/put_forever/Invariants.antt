use Rattle.std.specs.Prelude.{◌≡◌, ◌++◌, vec_len}
use Rattle.space_txn.specs.Content.{SameItems, added_of}
use Rattle.qap_search.proofs.worker.forever_writes.put_forever.Given as goal

abbrev pub invariant-loop-tuple : goal.invariant-loop-tuple
invariant-loop-tuple l = record {
  number : l.txn.number ≡ l.fn.txn.number;
  marks : l.txn.marks ≡ l.fn.txn.marks;
  written : SameItems (added_of l.txn.writes ++ l.rest.items) (added_of l.fn.txn.writes ++ l.fn.tuples.items);
}

abbrev pub decreases-loop-tuple : goal.decreases-loop-tuple
decreases-loop-tuple l = vec_len l.rest
