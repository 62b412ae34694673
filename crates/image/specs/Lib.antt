pub mod Parts
pub mod Judged
pub mod Held
pub mod Writing
