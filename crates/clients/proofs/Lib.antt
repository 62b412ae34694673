pub mod Marks
pub mod Readings
pub mod WholeImage
pub mod Spoils
pub mod NearestOfAll
pub mod Ceilings
