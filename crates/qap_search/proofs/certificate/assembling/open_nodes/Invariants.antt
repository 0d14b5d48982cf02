use Rattle.std.specs.Prelude.{◌≡◌, take}
use Rattle.qap_search.specs.Tuples.Piece.{open_count}
use Rattle.qap_search.proofs.certificate.assembling.open_nodes.Given as goal

abbrev pub invariant-loop-tuple : goal.invariant-loop-tuple
invariant-loop-tuple l = l.count ≡ open_count (take l.tuple-index l.tuples)
