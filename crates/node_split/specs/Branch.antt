-- On which facility or location a node is split.
use Rattle.std.specs.Prelude.{Bool, List}
use Rattle.subtree_search.specs.declared.line.Line.{Line}
use Rattle.subtree_search.specs.declared.line.Line.TheVariants.{Row, Column}
use Rattle.node_split.specs.declared.branch.Branch.{Branch}
use Rattle.node_split.specs.declared.branch.Branch.TheVariants.{Facility, Location}
use Rattle.node_split.specs.declared.branch.MarkLists.{MarkLists}

-- the row or column of the Gilmore-Lawler matrix that belongs to it
abbrev pub line_of : Branch → Line
line_of (Facility own) = Row own
line_of (Location own) = Column own

-- a facility's children differ in their locations, and a location's in their facilities
abbrev pub marks_on : MarkLists → Branch → List Bool
marks_on m (Facility own) = m.locations.items
marks_on m (Location own) = m.facilities.items
