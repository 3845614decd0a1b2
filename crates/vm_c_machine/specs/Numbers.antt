-- What numbers tell of a machine.
use Rattle.std.specs.Prelude.{◌≡◌, ◌==◌, ◌+◌, ◌-◌, ◌*◌, ◌/◌, ◌^◌, min, ℕ, ℤ, pos, negsuc, if◌then◌else◌, List, [], Option, Some, None, option_and_then, Result, Ok, Err}
use Rattle.std.specs.Duration.{as_nanos}
use Rattle.std.specs.declared.time.Duration.{Duration}
use Rattle.journal_model.specs.AwaitTree.{AwaitTree}
use Rattle.journal_model.specs.Notification.{Bytes}
use Rattle.journal_model.specs.declared.call.Moment.{Moment}
use Rattle.protocol_errors.specs.declared.error.Error.{Error}
use Rattle.protocol_errors.specs.declared.metadata.CommandMetadata.{CommandMetadata}
use Rattle.vm_progress.specs.AwaitEffects.{DoesAwait}
use Rattle.vm_machine.specs.declared.machine_state.MachineState.{MachineState}
use Rattle.vm_start.specs.Failure.{behavior_number}
use Rattle.vm_types.specs.declared.answers.AwaitResponse.{AwaitResponse}
use Rattle.vm_types.specs.declared.answers.AwaitResponse.TheVariants.{AnyCompleted, WaitingExternalProgress, ExecuteRun, CancelSignalReceived, EphemeralNotificationReady}
use Rattle.vm_types.specs.declared.answers.State.{State}
use Rattle.vm_types.specs.declared.answers.State.TheVariants as states
use Rattle.vm_c_values.specs.Nodes.{nodes_of}
use Rattle.vm_c_values.specs.Replies.{part_of}
use Rattle.vm_c_values.specs.declared.node.Node.{Node}
use Rattle.vm_c_values.specs.declared.not_done.NotDone.{NotDone}
use Rattle.vm_c_machine.specs.Calls.{AsksForBytes}
use Rattle.vm_c_machine.specs.declared.machine.Machine.{Machine}

abbrev pub state_number : State → ℕ
state_number states.WaitingPreFlight = 0
state_number states.Replaying = 1
state_number states.Processing = 2
state_number states.Closed = 3

-- ---- what an await has come to

abbrev pub outcome_of : AwaitResponse → ℕ
outcome_of AnyCompleted = 0
outcome_of (WaitingExternalProgress input proposal) = 1
outcome_of (ExecuteRun handle) = 2
outcome_of CancelSignalReceived = 3
outcome_of (EphemeralNotificationReady id) = 4

abbrev pub detail_of : AwaitResponse → ℕ
detail_of AnyCompleted = 0
detail_of (WaitingExternalProgress input proposal) = (if input then 1 else 0) + (if proposal then 2 else 0)
detail_of (ExecuteRun handle) = handle
detail_of CancelSignalReceived = 0
detail_of (EphemeralNotificationReady id) = id.number

-- outcome and detail tell the response, or the error is answered
abbrev pub TellsResponse : (outcome detail : ℕ) → Result AwaitResponse Error → Result (Unit {0}) Error → Type 0
TellsResponse outcome detail (Ok response) made = (made ≡ Ok tt) × (outcome ≡ outcome_of response) × (detail ≡ detail_of response)
TellsResponse outcome detail (Err error) made = made ≡ Err error

-- an await of the tree that has these nodes
pub record AwaitsNodes (nodes : List Node) (outcome detail : ℕ) (old : MachineState) (made : Result (Unit {0}) Error) (new : MachineState) : Type 0 where
  pub tree : AwaitTree ℕ
  pub response : Result AwaitResponse Error
  pub nodes_are : nodes_of tree ≡ nodes
  pub awaits : DoesAwait tree old response new
  pub told : TellsResponse outcome detail response made

-- 0 says that none is given
abbrev pub moment_given : (millis : ℕ) → Option Moment
moment_given millis = if millis == 0 then None else Some (millis * 1_000_000)

-- ---- parts of the input

abbrev pub PartIs : (found : ℕ) → (reply : Bytes) → Option Bytes → Type 0
PartIs found reply None = (found ≡ 0) × (reply ≡ [])
PartIs found reply (Some bytes) = (found ≡ 1) × (reply ≡ bytes)

abbrev pub TellsPart : (part index found : ℕ) → (old : Machine) → Result Bytes NotDone → (new : Machine) → Type 0
TellsPart part index found old done new = AsksForBytes (λ machine reply. PartIs found reply (option_and_then (λ input. part_of input part index) machine.input)) old done new

-- ---- the error that was answered last

-- the greatest number where there is none, or it is longer
abbrev pub delay_told : Option Duration → ℕ
delay_told None = 2 ^ 64 - 1
delay_told (Some delay) = min (as_nanos delay / 1_000_000) (2 ^ 64 - 1)

-- -1 where it is about none
abbrev pub command_told : Option CommandMetadata → ℤ
command_told None = negsuc 0
command_told (Some command) = pos command.index

abbrev pub ErrorIs : (code behavior delay : ℕ) → (command : ℤ) → (reply : Bytes) → Option Error → Type 0
ErrorIs code behavior delay command reply None = (code ≡ 0) × (behavior ≡ 0) × (delay ≡ delay_told None) × (command ≡ command_told None) × (reply ≡ [])
ErrorIs code behavior delay command reply (Some error) =
    (code ≡ error.code.0) × (behavior ≡ behavior_number error.behavior) × (delay ≡ delay_told error.next_retry_delay) × (command ≡ command_told error.related_command)
    × (reply ≡ error.message)

abbrev pub TellsError : (code behavior delay : ℕ) → (command : ℤ) → (old : Machine) → Result Bytes NotDone → (new : Machine) → Type 0
TellsError code behavior delay command old done new = AsksForBytes (λ machine reply. ErrorIs code behavior delay command reply machine.failure) old done new
