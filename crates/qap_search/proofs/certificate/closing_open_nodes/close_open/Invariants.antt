use Rattle.std.specs.Prelude.{List, ◌++◌, vec_len}
use Rattle.std.specs.List.{AllZip}
use Rattle.space_txn.specs.Content.{SameItems}
use Rattle.tuple_match.specs.FieldValue.{FieldValue}
use Rattle.qap_search.specs.Certificate.ClosedTuples.{IsClosedTuple}
use Rattle.qap_search.proofs.certificate.closing_open_nodes.close_open.Given as goal

-- what is left and what has been closed are the tuples
abbrev pub invariant-loop-tuple : goal.invariant-loop-tuple
invariant-loop-tuple l =
    (done : List (List FieldValue)) × SameItems l.fn.tuples.items (l.tuples.items ++ done) × AllZip (IsClosedTuple l.fn.instance) done l.closed.items

abbrev pub decreases-loop-tuple : goal.decreases-loop-tuple
decreases-loop-tuple l = vec_len l.tuples
