pub mod AbstractStore
pub mod Calls
pub mod Frames
pub mod Pieces
pub mod Forgetting
