pub mod Stacking
pub mod Counting
pub mod Nesting
