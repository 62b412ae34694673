pub mod Element
pub mod Splice
pub mod RunStart
