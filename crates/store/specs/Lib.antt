pub mod Opening
pub mod Placed
pub mod Reading
pub mod Numbers
pub mod Sound
