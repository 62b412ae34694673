pub mod Growing
pub mod Build
