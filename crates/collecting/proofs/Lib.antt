pub mod WrittenAt
pub mod Lists
pub mod BlockLists
