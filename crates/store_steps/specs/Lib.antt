pub mod LiveAreOpen
pub mod FrameAnswers
pub mod Reads
pub mod PreparedFrames
pub mod JoinedFrames
