pub mod Way
pub mod Located
