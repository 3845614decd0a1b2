pub mod Live
pub mod Landing
pub mod Taking
pub mod Replies
pub mod Behind
pub mod Frames
pub mod Pieces
pub mod Forgetting
