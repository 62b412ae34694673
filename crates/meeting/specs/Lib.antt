pub mod Place
pub mod Shown
pub mod Best
pub mod Matching
pub mod Meeting
