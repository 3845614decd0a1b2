pub mod Rounds
pub mod Order
pub mod Trip
pub mod Job
