pub mod Runs
pub mod SlotCodes
