-- Which frame of an attempt a message is.
use Rattle.std.specs.Prelude.{ℕ, Bool, true, false, ◌&&◌, if◌then◌else◌, List, Option, Some, None, unwrap_or}
use Rattle.protocol_table.specs.declared.table.RecordType.{RecordType}
use Rattle.protocol_table.specs.declared.table.RecordType.TheVariants as records
use Rattle.protocol_wire.specs.Wire.{Field}
use Rattle.protocol_wire.specs.Fields.{fields}
use Rattle.protocol_wire.specs.Check.{payload_fault}
use Rattle.protocol_wire.specs.declared.check.Fault.{Fault}
use Rattle.protocol_wire.specs.declared.check.Fault.TheVariants.{BadPayload, TooDeep}
use Rattle.protocol_wire.specs.declared.record.TheConstants.{LEVELS}
use Rattle.journal_model.specs.Request.{Request}
use Rattle.journal_model.specs.declared.value.NonEmptyValue.{NonEmptyValue}
use Rattle.journal_model.specs.Event.{Frame}
use Rattle.journal_model.specs.AwaitTree.{has_number}
use Rattle.protocol_trees.specs.Future.{future_tree}
use Rattle.protocol_records.specs.declared.future.Future.{Future}
use Rattle.protocol_records.specs.AwaitingOn.{awaiting_on_of}
use Rattle.protocol_records.specs.Suspension.{suspension_of}
use Rattle.protocol_records.specs.SuspensionV6.{suspension_v6_of}
use Rattle.protocol_controls.specs.Error.{error_of}
use Rattle.protocol_controls.specs.ProposeRunCompletion.{propose_run_completion_of}
use Rattle.protocol_controls.specs.declared.error.ErrorMessage.{ErrorMessage}
use Rattle.protocol_types.specs.declared.message_type.MessageType.{MessageType}
use Rattle.protocol_stream.specs.declared.decoder.RawMessage.{RawMessage}
use Rattle.protocol_stream.specs.declared.header.MessageHeader.{MessageHeader}
use Rattle.protocol_stream.specs.Header.{message_type, requested_ack}
use Rattle.protocol_types.specs.declared.feature.Feature.TheVariants.{AwaitTree, AtLeast}
use Rattle.protocol_types.specs.Feature.{lacks_feature}
use Rattle.store_frames.specs.declared.kind.FrameKind.{FrameKind}
use Rattle.store_frames.specs.declared.kind.FrameKind.TheVariants as kinds
use Rattle.store_frames.specs.Kind.{frame_kind, record_of}
use Rattle.store_frames.specs.Commands.{request_in}
use Rattle.store_frames.specs.Requests.{awaited_tree, suspension_of_tree, suspension_of_lists, behavior_in, proposal_told}

-- a payload with which something is wrong is no more than that
abbrev pub unless_faulty : Option Fault → Frame → Frame
unless_faulty None frame = frame
unless_faulty (Some BadPayload) frame = Frame.Broken
unless_faulty (Some TooDeep) frame = Frame.TooDeep

-- a payload of this record, whose fields mean this
abbrev pub read_as : RecordType → (List Field → Frame) → List ℕ → Frame
read_as t frame payload = unless_faulty (payload_fault LEVELS t payload) (frame (fields payload))

-- a command without what it must have is broken
abbrev pub command_or_broken : Option Request → Frame
command_or_broken None = Frame.Broken
command_or_broken (Some request) = Frame.Command request

abbrev pub error_frame : ℕ → ErrorMessage → Frame
error_frame version one = Frame.Error one.code one.message (behavior_in version one.behavior) one.next_retry_delay

-- a tree that asks for a number of successes is broken in a version in which none does
abbrev pub unless_numbered : (lacks_numbers : Bool) → Option Future → Frame → Frame
unless_numbered lacks None frame = frame
unless_numbered lacks (Some future) frame = if lacks && has_number (future_tree future) then Frame.Broken else frame

-- three lists, or a tree
abbrev pub suspension_frame : (has_lists lacks_numbers : Bool) → List ℕ → Frame
suspension_frame true lacks = read_as records.SuspensionV6 (λ fs. Frame.Suspend (Some (suspension_of_lists (suspension_v6_of LEVELS fs))))
suspension_frame false lacks =
    read_as records.Suspension (λ fs. unless_numbered lacks (suspension_of LEVELS fs).awaiting_on (Frame.Suspend (suspension_of_tree (suspension_of LEVELS fs))))

abbrev pub awaiting_frame : (lacks_numbers : Bool) → List ℕ → Frame
awaiting_frame lacks = read_as records.AwaitingOn (λ fs. unless_numbered lacks (awaiting_on_of LEVELS fs).awaiting_on (Frame.AwaitingOn (awaited_tree (awaiting_on_of LEVELS fs))))

-- a proposal without an outcome is broken
abbrev pub outcome_or_broken : Bool → Option (ℕ × NonEmptyValue) → Frame
outcome_or_broken is_acknowledged None = Frame.Broken
outcome_or_broken is_acknowledged (Some outcome) = Frame.RunOutcome outcome.0 outcome.1 is_acknowledged

-- the frame of a payload of some record, where there is one: a custom entry has none, and is never accepted
abbrev pub read_if_record : Option RecordType → (List Field → Frame) → List ℕ → Frame
read_if_record None frame payload = Frame.NotAccepted
read_if_record (Some t) frame payload = read_as t frame payload

-- Of a type that is not accepted too the payload is looked at, if it is one of a record: that it is broken comes first.
abbrev pub frame_by : ℕ → FrameKind → MessageType → Bool → List ℕ → Frame
frame_by version kinds.Command ty is_acknowledged payload = read_if_record (record_of ty) (λ fs. command_or_broken (request_in ty fs)) payload
frame_by version kinds.AwaitingOn ty is_acknowledged payload = awaiting_frame (lacks_feature version AtLeast) payload
frame_by version kinds.Suspension ty is_acknowledged payload = suspension_frame (lacks_feature version AwaitTree) (lacks_feature version AtLeast) payload
frame_by version kinds.Error ty is_acknowledged payload = read_as records.Error (λ fs. error_frame version (error_of LEVELS fs)) payload
frame_by version kinds.End ty is_acknowledged payload = read_as records.End (λ fs. Frame.End) payload
frame_by version kinds.RunOutcome ty is_acknowledged payload =
    read_as records.ProposeRunCompletion (λ fs. outcome_or_broken is_acknowledged (proposal_told (propose_run_completion_of LEVELS fs))) payload
frame_by version kinds.Other ty is_acknowledged payload = read_if_record (record_of ty) (λ fs. Frame.NotAccepted) payload

-- whether an acknowledgement is asked for: the flag stands in the header
abbrev pub asks_ack : MessageHeader → Bool
asks_ack header = unwrap_or (requested_ack header) false

-- the frame that a message from an attempt of this version is
abbrev pub frame_of : (version : ℕ) → RawMessage → Frame
frame_of version m = frame_by version (frame_kind (message_type m.header)) (message_type m.header) (asks_ack m.header) m.payload
