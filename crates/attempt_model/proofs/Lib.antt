pub mod Requests
pub mod ReplyRows
