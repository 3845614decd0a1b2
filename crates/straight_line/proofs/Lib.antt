pub mod Trees
pub mod Loops
pub mod AnswerKinds
pub mod Staying
pub mod TakenValues
pub mod AwaitedHandles
pub mod TakeKinds
pub mod FittingRuns
