-- What the function of a handler is written with, passed on, so that its specs name this crate alone.
pub use Rattle.journal_model.specs.AwaitTree.{AwaitTree, AwaitTrees, Combinator, Single, Combined, no_trees, and_trees}
pub use Rattle.journal_model.specs.Headers.{handler_header, is_for, tells_handler}
pub use Rattle.journal_model.specs.Notification.{Bytes, Text}
pub use Rattle.journal_model.specs.Run.{Handler}
pub use Rattle.journal_model.specs.declared.call.Answer.{Answer}
pub use Rattle.journal_model.specs.declared.call.AttachInvocationTarget.{AttachInvocationTarget}
pub use Rattle.journal_model.specs.declared.call.Call.{Call}
pub use Rattle.journal_model.specs.declared.call.Header.{Header}
pub use Rattle.journal_model.specs.declared.call.PayloadOptions.{PayloadOptions}
pub use Rattle.journal_model.specs.declared.call.Target.{Target}
pub use Rattle.journal_model.specs.declared.handler.Input.{Input}
pub use Rattle.journal_model.specs.declared.notification.Failure.{Failure}
pub use Rattle.journal_model.specs.declared.value.NonEmptyValue.{NonEmptyValue}
pub use Rattle.journal_model.specs.declared.value.TerminalFailure.{TerminalFailure}
pub use Rattle.journal_model.specs.declared.value.Value.{Value}
