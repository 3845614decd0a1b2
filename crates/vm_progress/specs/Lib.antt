pub mod Causes
pub mod StateReadEffects
pub mod UncompletedAwaits
pub mod AwaitedRuns
pub mod SleepingAwaits
pub mod AwaitEffects
pub mod EndEffects
