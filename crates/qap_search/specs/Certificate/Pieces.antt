-- The pieces of a search, sorted by kind, as tuples.
use Rattle.std.specs.Prelude.{List, ◌∷◌, map, Option, Some, None}
use Rattle.tuple_match.specs.FieldValue.{FieldValue}
use Rattle.qap_search.specs.Tuples.DecidedTuples.{decided_tuple, found_tuple}
use Rattle.qap_search.specs.declared.tuples.parsing.BestFound.{BestFound}
use Rattle.qap_search.specs.declared.tuples.parsing.DecidedNode.{DecidedNode}
use Rattle.qap_search.specs.declared.certificate.pieces.Pieces.{Pieces}

-- the tuples of these nodes
abbrev pub decided_tuples : List DecidedNode → List (List FieldValue)
decided_tuples nodes = map decided_tuple nodes

-- and of the incumbent, if it has been found
abbrev pub told_tuples : Option BestFound → List DecidedNode → List (List FieldValue)
told_tuples None nodes = decided_tuples nodes
told_tuples (Some b) nodes = found_tuple b ∷ decided_tuples nodes

-- the tuple of the incumbent, and those of the decided nodes
abbrev pub pieces_tuples : Pieces → List (List FieldValue)
pieces_tuples p = found_tuple p.best ∷ decided_tuples p.decided.items
