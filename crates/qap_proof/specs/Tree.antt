-- Proof trees: how the permutations that complete a node are split, and what proves that none in each part costs less than
-- a bound, independent of where a tree is stored in memory.
use Rattle.std.specs.Prelude.{ℕ, ◌+◌, List, ℤ, Option, slice_index}
use Rattle.qap_cost.specs.Placement.{Placement, IsFreeFacility, IsFreeLocation, free_facilities, free_locations, placing}
use Rattle.qap_proof.specs.declared.side.Side.{Side}
use Rattle.qap_proof.specs.declared.side.Side.TheVariants.{Facility, Location}

-- one for each free facility, and one for each free location
pub record Pair : Type 0 where
  pub u : List ℤ
  pub v : List ℤ

-- the duals with these two lists
abbrev pub pair : List ℤ → List ℤ → Pair
pair u v = record { u = u; v = v }

-- of a split: the facility or the location on which it is, and its optional duals
pub record Split : Type 0 where
  pub side : Side
  pub number : ℕ
  pub duals : Option Pair

-- closed by duals; split, with a child for each free one of the other side; pruned by the duals of the split above; or symmetric to
-- the earlier child of this number under a permutation
mutual
  -- one node with all below it
  pub data Node : Type 0 where
    closed : Pair → Node
    split : Split → Nodes → Node
    cut : Node
    mirrored : ℕ → List ℕ → Node

  -- nodes in a row: the children of a split
  pub data Nodes : Type 0 where
    no_nodes : Nodes
    node : Node → Nodes → Nodes

-- how many nodes there are
abbrev mutual
  pub node_count : Node → ℕ
  node_count (closed d) = 1
  node_count (split s children) = 1 + nodes_count children
  node_count cut = 1
  node_count (mirrored j m) = 1

  pub nodes_count : Nodes → ℕ
  nodes_count no_nodes = 0
  nodes_count (node t rest) = node_count t + nodes_count rest

-- how many nodes the row itself has, without those below
abbrev pub child_count : Nodes → ℕ
child_count no_nodes = 0
child_count (node t rest) = 1 + child_count rest

-- the facility or the location is free
abbrev pub IsFreeOn : Side → Placement → ℕ → Type 0
IsFreeOn Facility x i = IsFreeFacility x i
IsFreeOn Location x k = IsFreeLocation x k

-- the facility that child number c, from 0, of a split puts at a location: the one on which the split is, or the c-th
-- free one, ascending, if the split is on a location
abbrev pub facility_on : Side → Placement → ℕ → ℕ → ℕ
facility_on Facility x i c = i
facility_on Location x k c = slice_index (free_facilities x) c

-- the location at which this child puts it: the c-th free one, ascending, or the one on which the split is
abbrev pub location_on : Side → Placement → ℕ → ℕ → ℕ
location_on Facility x i c = slice_index (free_locations x) c
location_on Location x k c = k

-- the node of child number c of a split of x: x, with that facility placed at that location
abbrev pub child_of : Placement → Split → ℕ → Placement
child_of x s c = placing x (facility_on s.side x s.number c) (location_on s.side x s.number c)

-- the position of a node in a tree: the root, or child number c of a split of a node
pub data Place : Type 0 where
  whole : Placement → Place
  child : Placement → Split → ℕ → Place

-- the node of the tree at a position
abbrev pub node_at : Place → Placement
node_at (whole x) = x
node_at (child x s c) = child_of x s c
