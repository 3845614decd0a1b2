-- What is kept of each record, and of a payload.
use Rattle.std.specs.Prelude.{ℕ, ◌==◌, ◌&&◌, Bool, true, false, if◌then◌else◌, List, Option, Some, None}
use Rattle.protocol_table.specs.declared.table.RecordType.{RecordType}
use Rattle.protocol_table.specs.declared.table.RecordType.TheVariants as records
use Rattle.protocol_wire.specs.Wire.{Field}
use Rattle.protocol_wire.specs.Fields.{fields}
use Rattle.protocol_wire.specs.Check.{payload_fault}
use Rattle.protocol_wire.specs.Parts.{payload_of}
use Rattle.protocol_wire.specs.declared.check.Fault.{Fault}
use Rattle.protocol_wire.specs.declared.check.Fault.TheVariants.{BadPayload, TooDeep}
use Rattle.protocol_wire.specs.declared.record.TheConstants.{LEVELS}
use Rattle.journal_model.specs.declared.value.NonEmptyValue.{NonEmptyValue}
use Rattle.journal_model.specs.Value.{result_of_value}
use Rattle.journal_model.specs.Request.{Request}
use Rattle.journal_model.specs.Spelling.{request_payload, suspension_payload}
use Rattle.protocol_trees.specs.Future.{future_tree}
use Rattle.protocol_records.specs.declared.future.Future.{Future}
use Rattle.protocol_records.specs.declared.suspension.SuspensionMessage.{SuspensionMessage}
use Rattle.protocol_records.specs.declared.suspension_v6.SuspensionMessageV6.{SuspensionMessageV6}
use Rattle.journal_model.specs.AwaitTree.{has_number}
use Rattle.protocol_records.specs.declared.awaiting_on.AwaitingOnMessage.{AwaitingOnMessage}
use Rattle.protocol_records.specs.AwaitingOn.{awaiting_on_of}
use Rattle.protocol_records.specs.Suspension.{suspension_of}
use Rattle.protocol_records.specs.SuspensionV6.{suspension_v6_of, suspension_v6_parts}
use Rattle.protocol_controls.specs.Error.{error_of}
use Rattle.protocol_controls.specs.ProposeRunCompletion.{propose_run_completion_of}
use Rattle.protocol_controls.specs.declared.propose_run_completion.ProposeRunCompletionMessage.{ProposeRunCompletionMessage}
use Rattle.protocol_controls.specs.declared.error.ErrorMessage.{ErrorMessage}
use Rattle.protocol_types.specs.declared.message_type.MessageType.{MessageType}
use Rattle.protocol_types.specs.declared.feature.Feature.TheVariants as features
use Rattle.protocol_types.specs.Feature.{lacks_feature}
use Rattle.store_frames.specs.Commands.{request_in, asked_for}
use Rattle.store_frames.specs.Kind.{record_of}
use Rattle.store_frames.specs.Requests.{proposal_told}
use Rattle.store_frames.specs.declared.command.AskedFor.{AskedFor}
use Rattle.store_frames.specs.declared.kind.FrameKind.{FrameKind}
use Rattle.store_frames.specs.declared.kind.FrameKind.TheVariants as kinds
use Rattle.store_frames.specs.declared.frame.ErrorBehavior.{ErrorBehavior}
use Rattle.store_frames.specs.declared.frame.ErrorBehavior.TheVariants as behaviors
use Rattle.store_frames.specs.declared.frame.AttemptFrame.{AttemptFrame}
use Rattle.store_frames.specs.declared.frame.AttemptFrame.TheVariants as answers

abbrev pub told_faulty : Fault → AttemptFrame
told_faulty BadPayload = answers.Broken
told_faulty TooDeep = answers.TooDeep

abbrev pub told_unless_faulty : Option Fault → AttemptFrame → AttemptFrame
told_unless_faulty None answer = answer
told_unless_faulty (Some fault) answer = told_faulty fault

abbrev pub told_as : RecordType → (List Field → AttemptFrame) → List ℕ → AttemptFrame
told_as t answer payload = told_unless_faulty (payload_fault LEVELS t payload) (answer (fields payload))

abbrev pub told_command : List ℕ → AskedFor → AttemptFrame
told_command payload asked = answers.Command (record {
  kind = asked.kind;
  payload = payload;
  completion = asked.completion;
  second_completion = asked.second_completion;
  moment = asked.moment;
  state = asked.state;
  are_keys_text = asked.are_keys_text;
})

-- of a command that stands for this request
abbrev pub told_request : Option Request → AttemptFrame
told_request None = answers.Broken
told_request (Some request) = told_command (request_payload request) (asked_for request)

-- in a version in which no tree asks for a number of successes, one that does is broken
abbrev pub told_unless_numbered : (lacks_numbers : Bool) → Future → AttemptFrame → AttemptFrame
told_unless_numbered lacks future answer = if lacks && has_number (future_tree future) then answers.Broken else answer

abbrev pub told_waiting : (lacks_numbers : Bool) → Option Future → AttemptFrame
told_waiting lacks None = answers.Broken
told_waiting lacks (Some future) = told_unless_numbered lacks future (answers.Suspension (suspension_payload (future_tree future)))

abbrev pub told_tree : ℕ → SuspensionMessage → AttemptFrame
told_tree version one = told_waiting (lacks_feature version features.AtLeast) one.awaiting_on

abbrev pub told_staying : (lacks_numbers : Bool) → Option Future → AttemptFrame
told_staying lacks None = answers.AwaitingOn
told_staying lacks (Some future) = told_unless_numbered lacks future answers.AwaitingOn

abbrev pub told_awaiting : ℕ → AwaitingOnMessage → AttemptFrame
told_awaiting version one = told_staying (lacks_feature version features.AtLeast) one.awaiting_on

abbrev pub told_lists : SuspensionMessageV6 → AttemptFrame
told_lists one = answers.Suspension (payload_of (suspension_v6_parts one))

abbrev pub told_number : ℕ → ErrorBehavior
told_number number = if number == 1 then behaviors.Pause else (if number == 2 then behaviors.Fail else behaviors.Retry)

abbrev pub told_behavior : ℕ → ℕ → ErrorBehavior
told_behavior version number = if lacks_feature version features.ErrorBehavior then behaviors.Retry else told_number number

abbrev pub told_error : ℕ → ErrorMessage → AttemptFrame
told_error version one = answers.Error one.code one.message (told_behavior version one.behavior) one.next_retry_delay

abbrev pub told_suspension : Bool → ℕ → List ℕ → AttemptFrame
told_suspension true version = told_as records.SuspensionV6 (λ fs. told_lists (suspension_v6_of LEVELS fs))
told_suspension false version = told_as records.Suspension (λ fs. told_tree version (suspension_of LEVELS fs))

abbrev pub told_outcome : Bool → Option (ℕ × NonEmptyValue) → AttemptFrame
told_outcome is_acknowledged None = answers.Broken
told_outcome is_acknowledged (Some outcome) = answers.RunOutcome outcome.0 (result_of_value outcome.1) is_acknowledged

abbrev pub told_proposal : Bool → ProposeRunCompletionMessage → AttemptFrame
told_proposal is_acknowledged one = told_outcome is_acknowledged (proposal_told one)

abbrev pub told_if_record : Option RecordType → (List Field → AttemptFrame) → List ℕ → AttemptFrame
told_if_record None answer payload = answers.NotAccepted
told_if_record (Some t) answer payload = told_as t answer payload

-- of a message of a command's type
abbrev pub told_by_type : MessageType → List ℕ → AttemptFrame
told_by_type ty = told_if_record (record_of ty) (λ fs. told_request (request_in ty fs))

abbrev pub told_by : ℕ → FrameKind → MessageType → Bool → List ℕ → AttemptFrame
told_by version kinds.Command ty is_acknowledged = told_by_type ty
told_by version kinds.AwaitingOn ty is_acknowledged = told_as records.AwaitingOn (λ fs. told_awaiting version (awaiting_on_of LEVELS fs))
told_by version kinds.Suspension ty is_acknowledged = told_suspension (lacks_feature version features.AwaitTree) version
told_by version kinds.Error ty is_acknowledged = told_as records.Error (λ fs. told_error version (error_of LEVELS fs))
told_by version kinds.End ty is_acknowledged = told_as records.End (λ fs. answers.End)
told_by version kinds.RunOutcome ty is_acknowledged = told_as records.ProposeRunCompletion (λ fs. told_proposal is_acknowledged (propose_run_completion_of LEVELS fs))
told_by version kinds.Other ty is_acknowledged = told_if_record (record_of ty) (λ fs. answers.NotAccepted)
