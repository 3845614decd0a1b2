pub mod Events
pub mod Keys
pub mod Room
pub mod Rowids
pub mod Size
