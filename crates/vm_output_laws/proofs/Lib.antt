pub mod Nested
pub mod Fitting
pub mod FrameMeanings
pub mod Streams
pub mod Told
pub mod SuspensionContent
pub mod WrittenFrames
pub mod TurnFrames
