use Rattle.std.specs.Prelude.{◌≡◌, ◌∷◌, map, take}
use Rattle.qap_cost.specs.Placement.{placing}
use Rattle.qap_search.specs.Tuples.Piece.{node_tuple, split_tuple}
use Rattle.qap_search.proofs.tuples.composing.split_tuples.Given as goal

abbrev pub invariant-loop-location : goal.invariant-loop-location
invariant-loop-location l =
    l.tuples.items ≡ split_tuple l.node l.facility ∷ map (λ k. node_tuple (placing l.node l.facility k)) (take l.location-index l.location-items)
