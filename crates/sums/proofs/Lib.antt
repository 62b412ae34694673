pub mod ElementNumbers
