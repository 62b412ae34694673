pub mod EntryLaws
pub mod FilledHoles
pub mod HeapLaws
pub mod HoleMoves
