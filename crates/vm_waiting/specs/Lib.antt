pub mod TakeEffects
pub mod SuspensionFrames
pub mod WaitsFor
pub mod ChildCancellation
pub mod AwaitSteps
pub mod WaitReport
pub mod TrackedChildren
pub mod CompletionPairs
