pub mod Choices
pub mod CompletePromiseCommand
pub mod Fields
pub mod GetEagerStateCommand
pub mod ReadBack
pub mod Texts
