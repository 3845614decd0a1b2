pub mod Finding
pub mod Deciding
pub mod PageRows
pub mod DuePage
pub mod OpenRequests
