pub mod SameBlocks
pub mod PathNumbers
pub mod Disturbing
pub mod PixelsAt
pub mod ChangeBegins
pub mod ChangeEnds
pub mod MarkAndClear
