pub mod Growth
pub mod OpenElements
pub mod StackWords
pub mod SlotNumbers
pub mod Packing
pub mod PackTurns
pub mod Appending
