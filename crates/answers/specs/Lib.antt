pub mod Answer
pub mod Judged
