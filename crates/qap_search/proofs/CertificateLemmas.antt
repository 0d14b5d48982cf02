-- From the tuples of a search to its certificate, and back.
pub mod AcceptedTexts
pub mod Assembled
pub mod Certificates
pub mod DeeperNodes
pub mod Finishing
pub mod Halves
pub mod Keys
pub mod LeafBounds
pub mod MadeOf
pub mod OneTree
pub mod OpenNodes
pub mod Reorderings
pub mod StoppedAssembling
pub mod StoppedLaws
pub mod Taking
