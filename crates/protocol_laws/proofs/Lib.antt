pub mod Back
pub mod Fields
pub mod Requests
pub mod Notifications
pub mod Told
