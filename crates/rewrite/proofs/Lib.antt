pub mod SlotNows
pub mod Runs
pub mod LentSlots
pub mod Moves
pub mod HandUps
