pub mod Escapes
pub mod WordLaws
pub mod Spaces
pub mod RequestLaws
pub mod Headers
pub mod Ids
