-- What an attempt writes: frames as they are spelled, and which frame of an attempt each is.
use Rattle.std.specs.Prelude.{◌≡◌, ◌<◌, ◌^◌, ℕ, Bool, true, false, if◌then◌else◌, List, [], length, Some}
use Rattle.std.specs.List.{AllByRecursion, flat_map, list_all}
use Rattle.std.specs.Str.{is_utf8}
use Rattle.protocol_wire.specs.Parts.{payload_of}
use Rattle.protocol_wire.specs.declared.record.TheConstants.{LEVELS}
use Rattle.protocol_types.specs.declared.message_type.MessageType.{MessageType}
use Rattle.protocol_types.specs.declared.message_type.MessageType.TheVariants as types
use Rattle.protocol_types.specs.declared.version.Version.{Version}
use Rattle.protocol_types.specs.declared.feature.Feature.TheVariants.{Acknowledgement, AwaitTree as TellsTrees}
use Rattle.protocol_types.specs.Version.{version_number}
use Rattle.protocol_types.specs.Feature.{has_feature, lacks_feature}
use Rattle.journal_model.specs.Notification.{Bytes}
use Rattle.journal_model.specs.declared.notification.NotificationId.{NotificationId}
use Rattle.journal_model.specs.declared.value.NonEmptyValue.{NonEmptyValue}
use Rattle.journal_model.specs.AwaitTree.{AwaitTree}
use Rattle.journal_model.specs.Request.{Request}
use Rattle.journal_model.specs.Event.{Suspension, ForTree, ForAny, Frame}
use Rattle.journal_model.specs.Cause.{keys_of}
use Rattle.journal_model.specs.Spelling.{completions_in, signals_in, names_in, request_type, request_payload, awaiting_on_payload, frame_bytes}
use Rattle.protocol_controls.specs.declared.error.ErrorMessage.{ErrorMessage}
use Rattle.protocol_controls.specs.Error.{error_parts, ErrorFits}
use Rattle.protocol_controls.specs.ProposeRunCompletion.{propose_run_completion_parts}
use Rattle.protocol_stream.specs.declared.decoder.RawMessage.{RawMessage}
use Rattle.protocol_stream.specs.Frame.{message_of, spelled}
use Rattle.protocol_stream.specs.Records.{future_record}
use Rattle.protocol_trees.specs.Future.{ids_in, future_tree}
use Rattle.store_frames.specs.declared.kind.FrameKind.{FrameKind}
use Rattle.store_frames.specs.declared.kind.FrameKind.TheVariants as kinds
use Rattle.store_frames.specs.Kind.{frame_kind}
use Rattle.store_frames.specs.FrameMeanings.{error_frame}
use Rattle.vm_proposals.specs.ProposalEffects.{proposal, proposal_message}
use Rattle.vm_waiting.specs.SuspensionFrames.{leaves_by_node, suspension_payload_in}
use Rattle.vm_request_laws.specs.Calls.{IsTypedValue}
use Rattle.vm_request_laws.specs.RequestBounds.{RequestFits}
use Rattle.vm_request_laws.specs.Trees.{IsSpoken, LeavesFit, TreeFits}

-- a request, the outcome of a run that is proposed for its completion, what is waited for while the attempt stays and where it is suspended,
-- an error, and the end
pub data Sent : Type 0 where
  Asks : Request → Sent
  Proposes : ℕ → NonEmptyValue → Sent
  Awaits : AwaitTree NotificationId → Sent
  Suspends : AwaitTree NotificationId → Sent
  Fails : ErrorMessage → Sent
  Ends : Sent

-- ---- as it is spelled

abbrev pub sent_type : Sent → MessageType
sent_type (Asks request) = request_type request
sent_type (Proposes n value) = types.ProposeRunCompletion
sent_type (Awaits tree) = types.AwaitingOn
sent_type (Suspends tree) = types.Suspension
sent_type (Fails error) = types.Error
sent_type Ends = types.End

abbrev pub sent_payload : Version → Sent → Bytes
sent_payload version (Asks request) = request_payload request
sent_payload version (Proposes n value) = payload_of (propose_run_completion_parts (proposal n value))
sent_payload version (Awaits tree) = awaiting_on_payload tree false
sent_payload version (Suspends tree) = suspension_payload_in version tree
sent_payload version (Fails error) = payload_of (error_parts error)
sent_payload version Ends = []

-- the header of a proposal asks for an acknowledgement, from the version on that has them; no other header asks for one
abbrev pub sent_frame : Version → Sent → Bytes
sent_frame version (Proposes n value) = spelled (proposal_message version (proposal n value))
sent_frame version sent = frame_bytes (sent_type sent) (sent_payload version sent)

abbrev pub sent_stream : Version → List Sent → Bytes
sent_stream version coming = flat_map (sent_frame version) coming

-- the message that its bytes bring
abbrev pub sent_message : Version → Sent → RawMessage
sent_message version (Proposes n value) = proposal_message version (proposal n value)
sent_message version sent = message_of (sent_type sent) (sent_payload version sent)

-- ---- where the protocol can tell it

-- a suspension tells the tree, or before version 7 lists of its ids, however deep these are nested
abbrev pub SuspendedFits : (has_lists : Bool) → AwaitTree NotificationId → Type 0
SuspendedFits true tree = LeavesFit tree
SuspendedFits false tree = TreeFits tree

abbrev pub IsSentTold : Version → Sent → Type 0
IsSentTold version (Asks request) = RequestFits request
IsSentTold version (Proposes n value) = (n < 2 ^ 32) × IsTypedValue value
IsSentTold version (Awaits tree) = TreeFits tree × IsSpoken (version_number version) tree
IsSentTold version (Suspends tree) = SuspendedFits (lacks_feature (version_number version) TellsTrees) tree × IsSpoken (version_number version) tree
IsSentTold version (Fails error) = ErrorFits LEVELS error
IsSentTold version Ends = Unit {0}

-- and the length of its payload is one that a header tells
pub record SentFits (version : Version) (sent : Sent) : Type 0 where
  pub told : IsSentTold version sent
  pub short : length (sent_payload version sent) < 2 ^ 32

abbrev pub AllFit : Version → List Sent → Type 0
AllFit version coming = AllByRecursion (SentFits version) coming

-- ---- what it is meant as

-- the commands that a store records so far, whether an attempt carries out calls for them or not
abbrev pub is_command : FrameKind → Bool
is_command kinds.Command = true
is_command _ = false

abbrev pub is_recorded : Request → Bool
is_recorded request = is_command (frame_kind (request_type request))

-- a request among these is one that the store records, and asks for state, or changes it, by keys that are text
abbrev pub IsOfStore : Sent → Type 0
IsOfStore (Asks request) = (is_recorded request ≡ true) × (list_all is_utf8 (keys_of request) ≡ true)
IsOfStore _ = Unit {0}

-- a tree as it is read of its record
abbrev pub tree_told : AwaitTree NotificationId → AwaitTree NotificationId
tree_told tree = future_tree (future_record tree)

-- from version 7 on a suspension tells the tree, and before that the three lists of its ids
abbrev pub suspension_told : (has_lists : Bool) → AwaitTree NotificationId → Suspension
suspension_told true tree = ForAny (ids_in (leaves_by_node completions_in tree) (leaves_by_node signals_in tree) (leaves_by_node names_in tree))
suspension_told false tree = ForTree (tree_told tree)

abbrev pub frame_meant : Version → Sent → Frame
frame_meant version (Asks request) = if is_recorded request then Frame.Command request else Frame.NotAccepted
frame_meant version (Proposes n value) = Frame.RunOutcome n value (has_feature (version_number version) Acknowledgement)
frame_meant version (Awaits tree) = Frame.AwaitingOn (Some (tree_told tree))
frame_meant version (Suspends tree) = Frame.Suspend (Some (suspension_told (lacks_feature (version_number version) TellsTrees) tree))
frame_meant version (Fails error) = error_frame (version_number version) error
frame_meant version Ends = Frame.End
