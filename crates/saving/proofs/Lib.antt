pub mod Saves
pub mod SavedImage
pub mod SaidNumbers
pub mod SaveAnswers
