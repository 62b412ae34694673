pub mod Run
pub mod Claim
pub mod Filled
pub mod Script
pub mod Whole
