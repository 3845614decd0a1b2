pub mod Firsts
pub mod Holding
pub mod Applying
mod Placing
pub mod Keeping
pub mod Executing
pub mod LettingGo
