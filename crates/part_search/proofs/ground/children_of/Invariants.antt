use Rattle.std.specs.Prelude.{◌≡◌, ℤ, All, map, take}
use Rattle.qap_cost.specs.Instance.{Problem}
use Rattle.subtree_search.specs.Opens.{IsOpen, node_of}
use Rattle.part_search.specs.Covers.{HasValue}
use Rattle.part_search.specs.Ground.{node_part}
use Rattle.part_search.specs.Tuples.{open_of}
use Rattle.part_search.proofs.ground.children_of.Given as goal

abbrev pub invariant-loop-i : goal.invariant-loop-i
invariant-loop-i l = record {
  nodes : map node_part l.opens.items ≡ map (node_of l.at.node) (take l.i l.children);
  values : (I : Problem) (d : ℤ) → All (IsOpen I l.scale l.at.node) l.children → HasValue I d (open_of l.at) → All (HasValue I d) (map open_of l.opens.items);
}
