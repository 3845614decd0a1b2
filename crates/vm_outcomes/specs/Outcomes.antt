-- What calls of the machine come to for a handler.
use Rattle.std.specs.Prelude.{◌==◌, if◌then◌else◌, Result, Ok, Err}
use Rattle.journal_model.specs.declared.call.Answer.{Answer}
use Rattle.protocol_errors.specs.Code.{suspended}
use Rattle.protocol_errors.specs.declared.error.Error.{Error}
use Rattle.vm_types.specs.declared.answers.AwaitResponse.{AwaitResponse}
use Rattle.vm_types.specs.declared.answers.AwaitResponse.TheVariants as responses
use Rattle.vm_outcomes.specs.declared.outcome.CallOutcome.{CallOutcome}
use Rattle.vm_outcomes.specs.declared.outcome.CallOutcome.TheVariants.{Answered, Waiting, Executes, Suspended, Ended, Failed}

-- a call that is answered at once
abbrev pub answered_as : {Taken : Type 0} → (Taken → Answer) → Result Taken Error → CallOutcome
answered_as answer (Ok taken) = Answered (answer taken)
answered_as answer (Err error) = Failed error

-- the end
abbrev pub ended_as : Result (Unit {0}) Error → CallOutcome
ended_as (Ok done) = Ended
ended_as (Err error) = Failed error

-- an await: a suspension is told as an error, and is none
abbrev pub awaited_as : Result AwaitResponse Error → CallOutcome
awaited_as (Ok responses.AnyCompleted) = Answered Answer.Woken
awaited_as (Ok responses.CancelSignalReceived) = Answered Answer.Cancelled
awaited_as (Ok (responses.WaitingExternalProgress input run)) = Waiting
awaited_as (Ok (responses.ExecuteRun handle)) = Executes handle
awaited_as (Ok (responses.EphemeralNotificationReady id)) = Waiting
awaited_as (Err error) = if error.code.0 == suspended then Suspended else Failed error
