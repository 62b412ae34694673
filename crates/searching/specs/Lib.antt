pub mod Distance
pub mod Search
pub mod Nearest
pub mod NearestPromises
pub mod NearestPosition
pub mod OpeningOrder
pub mod Samples
