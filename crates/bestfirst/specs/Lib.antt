pub mod Turns
pub mod UnderWay
pub mod Searches
