pub mod PassSteps
pub mod ChainFollowed
