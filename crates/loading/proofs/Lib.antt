pub mod EntryPixels
pub mod ImagePixels
pub mod LoadEnds
