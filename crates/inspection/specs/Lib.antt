pub mod Chain
pub mod Pass
