pub mod Appended
pub mod RootLaid
pub mod Finishing
pub mod Filled
pub mod GivenCodes
