pub mod Ordered
pub mod Tables
pub mod Awaited
pub mod KeptBodies
pub mod Rows
