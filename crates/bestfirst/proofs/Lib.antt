pub mod LeastEntries
pub mod EntryOrder
pub mod Stating
pub mod Turns
pub mod Aimed
pub mod SearchSteps
pub mod Going
pub mod Looping
