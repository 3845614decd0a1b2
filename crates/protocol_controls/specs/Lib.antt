pub mod Choices
pub mod Error
pub mod GetStateEphemeralCommand
pub mod GetStateEphemeralNotification
pub mod Notification
pub mod ProposeRunCompletion
pub mod ProposeRunCompletionAck
pub mod ReadBack
