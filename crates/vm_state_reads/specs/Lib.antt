pub mod Errors
pub mod ReadDescriptions
pub mod ReadAnswers
pub mod RecordedReads
pub mod SpentReplay
pub mod MismatchedReads
