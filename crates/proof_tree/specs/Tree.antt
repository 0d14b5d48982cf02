-- Proof trees with pair duals: how the completions of a node are split, and the duals with which each part reaches a bound.
use Rattle.std.specs.Prelude.{ℕ, ◌+◌, List, ℤ, Option}
use Rattle.qap_cost.specs.Placement.{Placement}
use Rattle.pair_duals.specs.Seats.{child_at}
use Rattle.qap_proof.specs.declared.side.Side.{Side}
use Rattle.qap_proof.specs.declared.side.Side.TheVariants.{Facility, Location}

-- pair duals as a text lists them: a scale, and a row for each free facility at each free location, all locations of one facility before
-- the next facility; the row has a dual for each other facility and then one for each other location; all ascending
pub record PairRows : Type 0 where
  pub scale : ℕ
  pub rows : List (List ℤ)

-- the duals that a node states: its own pair duals, if it has any, and the numbers of its line, one for each free facility
pub record NodeDuals : Type 0 where
  pub own : Option PairRows
  pub u : List ℤ

-- the symmetric image of the child of this number, from 0, of the same split, under a permutation of that side on which the children
-- differ; or under one of the facilities and one of the locations
pub data Image : Type 0 where
  by_one : ℕ → List ℕ → Image
  by_both : ℕ → List ℕ → List ℕ → Image

-- a leaf reaches the bound by its duals; a split has a child for each free one of the other side, ascending, which is closed without
-- a text, the symmetric image of an earlier child, or a tree
mutual
  -- a node with its duals: a leaf, or a split on the facility or location of this number
  pub data Tree : Type 0 where
    leaf : NodeDuals → Tree
    split : NodeDuals → Side → ℕ → Children → Tree

  -- the children of a split, in order
  pub data Children : Type 0 where
    no_children : Children
    closed : Children → Children
    image : Image → Children → Children
    grown : Tree → Children → Children

-- how many children there are
abbrev pub child_count : Children → ℕ
child_count no_children = 0
child_count (closed rest) = 1 + child_count rest
child_count (image m rest) = 1 + child_count rest
child_count (grown t rest) = 1 + child_count rest

-- the row and the column, among the free facilities and locations, of the pair that child number c places, where own is the index of
-- what the split is on
abbrev pub row_of : Side → ℕ → ℕ → ℕ
row_of Facility own c = own
row_of Location own c = c

-- the column of that pair
abbrev pub column_of : Side → ℕ → ℕ → ℕ
column_of Facility own c = c
column_of Location own c = own

-- child number c of a split of y, where own is the index of what the split is on
abbrev pub child_on : Side → Placement → ℕ → ℕ → Placement
child_on side y own c = child_at y (row_of side own c) (column_of side own c)
