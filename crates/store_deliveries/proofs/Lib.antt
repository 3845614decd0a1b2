-- The laws of a frame's first write.
pub mod Asking
pub mod Hex
pub mod Options
pub mod Rows
pub mod Keyed
pub mod MessageRows
pub mod Readable
pub mod Decoding
pub mod Symbols
pub mod Awakeables
pub mod Bringing
pub mod Adding
