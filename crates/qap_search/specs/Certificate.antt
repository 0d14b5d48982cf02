-- The certificate that the tuples of a search form.
pub mod Assembling
pub mod ClosedTuples
pub mod Finished
pub mod InOrder
pub mod LeafBounds
pub mod OpenNodes
pub mod Pieces
pub mod Stopped
pub mod TreeBuilding
