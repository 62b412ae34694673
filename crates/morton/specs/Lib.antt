pub mod Code
pub mod Coordinate
pub mod CommonLevel
pub mod LastCode
pub mod Axis
