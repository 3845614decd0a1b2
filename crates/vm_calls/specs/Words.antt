-- The words that the contract of each call names: the call and its answer, its request, the invocation, and the abstract machine.
pub use Rattle.journal_model.specs.declared.call.Call.{Call}
pub use Rattle.journal_model.specs.declared.call.Answer.{Answer}
pub use Rattle.journal_model.specs.Request.{Request}
pub use Rattle.journal_model.specs.Run.{Invocation}
pub use Rattle.attempt_model.specs.Machine.{Machine}
