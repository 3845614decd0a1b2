pub mod Steps
pub mod Calls
pub mod Everyday
pub mod Combinators
pub mod Rounds
pub mod Laws
pub mod TakenValues
pub mod FittingAnswers
