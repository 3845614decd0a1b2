mod StateBeforeInput
pub mod Admitted
mod Moments
mod AcknowledgementReceipt
