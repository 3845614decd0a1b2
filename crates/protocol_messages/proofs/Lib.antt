pub mod Frames
pub mod LeafLengths
pub mod Preorder
pub mod Reading
pub mod Suspensions
