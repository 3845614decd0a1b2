-- What the types of the code say of the end of a run's body: each text in it is UTF-8, and each number is within its type.
use Rattle.std.specs.Prelude.{◌<◌, ◌^◌, IsUtf8, IfSome}
use Rattle.protocol_errors.specs.declared.error.Error.{Error}
use Rattle.protocol_errors.specs.declared.metadata.CommandMetadata.{CommandMetadata}
use Rattle.vm_request_laws.specs.Calls.{IsTypedFailure}
use Rattle.vm_refusals.specs.declared.runs.RunExitResult.{RunExitResult}
use Rattle.vm_attempt.specs.declared.run_outcome.RunOutcome.{RunOutcome}

pub record IsTypedCommand (command : CommandMetadata) : Type 0 where
  pub index : command.index < 2 ^ 32
  pub name : IfSome command.name IsUtf8

pub record IsTypedError (error : Error) : Type 0 where
  pub code : error.code.0 < 2 ^ 16
  pub message : IsUtf8 error.message
  pub related_command : IfSome error.related_command IsTypedCommand

abbrev pub IsTypedExit : RunExitResult → Type 0
IsTypedExit (RunExitResult.Success bytes) = Unit {0}
IsTypedExit (RunExitResult.TerminalFailure failure) = IsTypedFailure failure
IsTypedExit (RunExitResult.RetryableFailure attempt_duration error) = IsTypedError error

-- what is said of a policy by its types bears on no frame
abbrev pub IsTypedOutcome : RunOutcome → Type 0
IsTypedOutcome outcome = IsTypedExit outcome.result
