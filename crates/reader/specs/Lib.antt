pub mod PixelCount
pub mod Reading
