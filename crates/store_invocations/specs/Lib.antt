pub mod Rows
pub mod NewInvocations
pub mod JournalContent
pub mod InvocationAnswers
pub mod Start
pub mod BegunAttempts
pub mod ForgottenRows
