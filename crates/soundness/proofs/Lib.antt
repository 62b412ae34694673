pub mod SlotsOnce
pub mod RootSlots
pub mod RootWalks
pub mod CheckAnswers
pub mod CheckSteps
