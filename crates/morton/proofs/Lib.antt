pub mod Codes
pub mod Blocks
mod Fields
pub mod CommonLevels
pub mod Order
pub mod Side
