pub mod FourBytes
pub mod EntryParts
pub mod ImageOfSet
pub mod ImageBytes
pub mod Accepted
pub mod BytesPut
pub mod EntryWrites
