pub mod FreeChains
pub mod FreedSlots
