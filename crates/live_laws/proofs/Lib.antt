pub mod RequestsInFlight
pub mod TurnWrites
pub mod LiveTurns
pub mod LiveInput
pub mod Begun
pub mod Keeping
pub mod Schedules
pub mod TurnRows
pub mod MachinePosition
pub mod MachineTurn
pub mod StartFrame
mod PositionRows
pub mod AskedArrivals
pub mod Recording
pub mod Texts
pub mod LiveMachines
pub mod Going
pub mod LivingRows
