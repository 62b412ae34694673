pub mod Decides
pub mod Bounds
pub mod SlotWrites
pub mod Usable
pub mod SizesWritten
