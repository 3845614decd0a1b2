pub mod Advancing
pub mod Carried
mod Lists
pub mod Numbers
mod Stopped
mod Rows
pub mod Pieces
pub mod Typing
