pub mod Closing
pub mod CrashImages
pub mod Finding
pub mod Lasting
pub mod Leaving
mod Made
pub mod Opening
