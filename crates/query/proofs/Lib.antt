pub mod SeenParts
pub mod Opens
pub mod Openings
pub mod Findings
pub mod Counts
pub mod WholeTree
pub mod RootCount
pub mod WholeCount
