pub mod Opened
pub mod WindowRange
pub mod Counting
