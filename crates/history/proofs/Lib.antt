pub mod Steps
pub mod Runs
pub mod FullSave
pub mod TwoLists
pub mod Routines
pub mod CallSteps
pub mod Whole
pub mod FilledAsMarked
