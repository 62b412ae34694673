pub mod Finish
pub mod Given
