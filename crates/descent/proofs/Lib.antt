pub mod Cutting
pub mod Looking
pub mod Ways
pub mod Descending
pub mod SmallestLocated
pub mod OpenedByPixel
