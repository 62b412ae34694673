pub mod Renumber
