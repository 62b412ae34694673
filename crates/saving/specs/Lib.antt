pub mod Numbers
pub mod Saving
