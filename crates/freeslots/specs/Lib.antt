pub mod FreeSlots
