pub mod Decides
pub mod Words
pub mod Slot
pub mod Sizes
pub mod Layout
