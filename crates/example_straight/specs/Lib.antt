pub mod Values
pub mod Counter
pub mod Offers
pub mod Order
pub mod Rounds
