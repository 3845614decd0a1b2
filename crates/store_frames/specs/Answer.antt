-- How what is kept of a message says which frame it is.
use Rattle.std.specs.Prelude.{◌≡◌, ℕ, Bool, List, ◌++◌, Option, Some, None}
use Rattle.std.specs.List.{list_all}
use Rattle.std.specs.Str.{is_utf8}
use Rattle.journal_model.specs.declared.notification.NotificationResult.{NotificationResult}
use Rattle.journal_model.specs.declared.value.NonEmptyValue.{NonEmptyValue}
use Rattle.journal_model.specs.Value.{result_of_value}
use Rattle.journal_model.specs.Request.{Request, completions_asked}
use Rattle.journal_model.specs.Cause.{keys_of}
use Rattle.journal_model.specs.Spelling.{packed_numbers, repeated_bytes, suspension_payload, request_payload, request_type}
use Rattle.journal_model.specs.Event.{Behavior, Retry, Pause, Fail, Suspension, ForTree, ForAny, Frame}
use Rattle.protocol_records.specs.declared.suspension_v6.SuspensionMessageV6.{SuspensionMessageV6}
use Rattle.store_frames.specs.Commands.{first_asked, second_asked, moment_of, state_use}
use Rattle.store_frames.specs.Requests.{suspension_of_lists}
use Rattle.store_frames.specs.declared.frame.RecordedCommand.{RecordedCommand}
use Rattle.store_frames.specs.declared.frame.ErrorBehavior.{ErrorBehavior}
use Rattle.store_frames.specs.declared.frame.ErrorBehavior.TheVariants as behaviors
use Rattle.store_frames.specs.declared.frame.AttemptFrame.{AttemptFrame}
use Rattle.store_frames.specs.declared.frame.AttemptFrame.TheVariants as answers

-- ---- commands

-- what is kept of a command is what is recorded of this request
pub record IsCommand (request : Request) (command : RecordedCommand) : Type 0 where
  pub kind : command.kind ≡ request_type request
  pub payload : command.payload ≡ request_payload request
  pub completion : command.completion ≡ first_asked (completions_asked request)
  pub second_completion : command.second_completion ≡ second_asked (completions_asked request)
  pub moment : command.moment ≡ moment_of request
  pub state : command.state ≡ state_use request
  pub text : command.are_keys_text ≡ list_all is_utf8 (keys_of request)

-- ---- what an attempt ends with

-- the canonical payload of three lists in which these ids stand
pub record KeepsLists (suspension : Suspension) (payload : List ℕ) : Type 0 where
  pub lists : SuspensionMessageV6
  pub lists_are : suspension_of_lists lists ≡ suspension
  pub payload_is : payload ≡ packed_numbers 1 lists.waiting_completions ++ (packed_numbers 2 lists.waiting_signals ++ repeated_bytes 3 lists.waiting_named_signals)

abbrev pub KeepsSuspension : Suspension → List ℕ → Type 0
KeepsSuspension (ForTree tree) payload = payload ≡ suspension_payload tree
KeepsSuspension (ForAny ids) payload = KeepsLists (ForAny ids) payload

abbrev pub behavior_meant : ErrorBehavior → Behavior
behavior_meant behaviors.Retry = Retry
behavior_meant behaviors.Pause = Pause
behavior_meant behaviors.Fail = Fail

pub record IsError (code : ℕ) (message : List ℕ) (behavior : Behavior) (delay : Option ℕ) (told_code : ℕ) (told_message : List ℕ) (told_behavior : ErrorBehavior) (told_delay : Option ℕ) : Type 0 where
  pub code_is : told_code ≡ code
  pub message_is : told_message ≡ message
  pub behavior_is : behavior_meant told_behavior ≡ behavior
  pub delay_is : told_delay ≡ delay

-- ---- what a run has come to

pub record IsOutcome (n : ℕ) (value : NonEmptyValue) (is_acknowledged : Bool) (completion : ℕ) (result : NotificationResult) (told_acknowledged : Bool) : Type 0 where
  pub completion_is : completion ≡ n
  pub result_is : result ≡ result_of_value value
  pub acknowledged_is : told_acknowledged ≡ is_acknowledged

-- ---- all

-- A suspension that waits for nothing is told as broken: that is the first cause against either, whatever else holds.
abbrev pub IsFrame : Frame → AttemptFrame → Type 0
IsFrame (Frame.Command request) (answers.Command command) = IsCommand request command
IsFrame (Frame.AwaitingOn awaited) answers.AwaitingOn = Unit {0}
IsFrame (Frame.Suspend None) answers.Broken = Unit {0}
IsFrame (Frame.Suspend (Some suspension)) (answers.Suspension payload) = KeepsSuspension suspension payload
IsFrame (Frame.Error code message behavior delay) (answers.Error told_code told_message told_behavior told_delay) =
    IsError code message behavior delay told_code told_message told_behavior told_delay
IsFrame Frame.End answers.End = Unit {0}
IsFrame (Frame.RunOutcome n value is_acknowledged) (answers.RunOutcome completion result told_acknowledged) = IsOutcome n value is_acknowledged completion result told_acknowledged
IsFrame Frame.Broken answers.Broken = Unit {0}
IsFrame Frame.TooDeep answers.TooDeep = Unit {0}
IsFrame Frame.NotAccepted answers.NotAccepted = Unit {0}
IsFrame _ _ = ⊥
