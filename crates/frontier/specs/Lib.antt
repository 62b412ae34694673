pub mod Entries
pub mod Holes
