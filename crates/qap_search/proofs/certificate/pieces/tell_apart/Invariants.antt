use Rattle.std.specs.Prelude.{◌++◌, vec_len}
use Rattle.space_txn.specs.Content.{SameItems}
use Rattle.qap_search.specs.Certificate.Pieces.{told_tuples}
use Rattle.qap_search.proofs.certificate.pieces.tell_apart.Given as goal

-- what is left and what has been told are the tuples
abbrev pub invariant-loop-tuple : goal.invariant-loop-tuple
invariant-loop-tuple l = SameItems l.fn.tuples.items (l.tuples.items ++ told_tuples l.best l.decided.items)

abbrev pub decreases-loop-tuple : goal.decreases-loop-tuple
decreases-loop-tuple l = vec_len l.tuples
