pub mod EnteredSlot
pub mod Walks
pub mod RootWalk
pub mod LoopTurns
