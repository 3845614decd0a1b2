pub mod Feature
pub mod Laws
pub mod MessageType
pub mod TypeText
pub mod Version
pub mod Texts
