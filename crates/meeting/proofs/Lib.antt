pub mod DistanceLaws
pub mod PassedTo
pub mod SeenElements
pub mod MetElements
pub mod MetBlocks
