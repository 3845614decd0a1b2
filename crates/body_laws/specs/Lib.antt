pub mod Bodies
pub mod AttemptExecution
pub mod BodySimulation
pub mod Laws
