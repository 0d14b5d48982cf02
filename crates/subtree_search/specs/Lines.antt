-- The rows and columns of a node's form, on which it is split.
use Rattle.std.specs.Prelude.{ℕ, ◌<◌}
use Rattle.qap_cost.specs.Placement.{Placement}
use Rattle.qap_proof.specs.declared.side.Side.{Side}
use Rattle.qap_proof.specs.declared.side.Side.TheVariants.{Facility, Location}
use Rattle.proof_tree.specs.Tree.{child_on as child_of_side, column_of, row_of}
use Rattle.subtree_search.specs.declared.line.Line.{Line}
use Rattle.subtree_search.specs.declared.line.Line.TheVariants.{Row, Column}

-- a row is that of a facility, and a column that of a location
abbrev pub side_of : Line → Side
side_of (Row h) = Facility
side_of (Column g) = Location

-- its index among the free ones
abbrev pub own_of : Line → ℕ
own_of (Row h) = h
own_of (Column g) = g

-- the row and the column of the k-th entry
abbrev pub row_on : Line → ℕ → ℕ
row_on line k = row_of (side_of line) (own_of line) k

-- the column of that entry
abbrev pub column_on : Line → ℕ → ℕ
column_on line k = column_of (side_of line) (own_of line) k

-- a row or column of an m by m matrix
abbrev pub IsLineOf : ℕ → Line → Type 0
IsLineOf m line = own_of line < m

-- the node's k-th child on the line
abbrev pub child_on : Placement → Line → ℕ → Placement
child_on y line k = child_of_side (side_of line) y (own_of line) k
