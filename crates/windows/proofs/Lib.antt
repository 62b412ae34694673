pub mod PartCorners
pub mod WindowTests
pub mod LyingTests
