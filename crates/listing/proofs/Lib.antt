pub mod ListEnds
