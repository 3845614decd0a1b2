-- What is kept of a message says which frame it is.
use Rattle.std.proofs.Common.{◌≡◌, ℕ, ◌==◌, Bool, true, false, ◌&&◌, List, Option, Some, None, Result, Ok, Err, refl, sym, subst, ◌∙◌}
use Rattle.std.specs.Prelude.{if◌then◌else◌, IfOk, option_map}
use Rattle.protocol_table.specs.declared.table.RecordType.{RecordType}
use Rattle.protocol_table.specs.declared.table.RecordType.TheVariants as records
use Rattle.protocol_wire.specs.Wire.{Field}
use Rattle.protocol_wire.specs.Fields.{fields}
use Rattle.protocol_wire.specs.Check.{payload_fault}
use Rattle.protocol_wire.specs.declared.check.Fault.{Fault}
use Rattle.protocol_wire.specs.declared.check.Fault.TheVariants.{BadPayload, TooDeep}
use Rattle.protocol_wire.specs.declared.record.TheConstants.{LEVELS}
use Rattle.journal_model.specs.declared.value.NonEmptyValue.{NonEmptyValue}
use Rattle.journal_model.specs.Request.{Request}
use Rattle.journal_model.specs.AwaitTree.{has_number}
use Rattle.journal_model.specs.Event.{Frame, ForTree, Retry, Pause, Fail}
use Rattle.journal_model.specs.Spelling.{suspension_payload}
use Rattle.protocol_trees.specs.Future.{future_tree}
use Rattle.protocol_records.specs.declared.suspension_v6.SuspensionMessageV6.{SuspensionMessageV6}
use Rattle.protocol_records.specs.declared.future.Future.{Future}
use Rattle.protocol_records.specs.AwaitingOn.{awaiting_on_of}
use Rattle.protocol_records.specs.Suspension.{suspension_of}
use Rattle.protocol_records.specs.SuspensionV6.{suspension_v6_of}
use Rattle.protocol_controls.specs.Error.{error_of}
use Rattle.protocol_controls.specs.ProposeRunCompletion.{propose_run_completion_of}
use Rattle.protocol_controls.specs.declared.error.ErrorMessage.{ErrorMessage}
use Rattle.protocol_types.specs.declared.message_type.MessageType.{MessageType}
use Rattle.protocol_types.specs.declared.feature.Feature.TheVariants as features
use Rattle.protocol_types.specs.Feature.{lacks_feature}
use Rattle.protocol_stream.specs.declared.decoder.RawMessage.{RawMessage}
use Rattle.protocol_stream.specs.Header.{message_type}
use Rattle.store_frames.specs.declared.kind.FrameKind.{FrameKind}
use Rattle.store_frames.specs.declared.kind.FrameKind.TheVariants as kinds
use Rattle.store_frames.specs.declared.frame.ErrorBehavior.TheVariants as behaviors
use Rattle.store_frames.specs.declared.frame.AttemptFrame.{AttemptFrame}
use Rattle.store_frames.specs.declared.frame.AttemptFrame.TheVariants as answers
use Rattle.store_frames.specs.Kind.{frame_kind, record_of}
use Rattle.store_frames.specs.Requests.{awaited_tree, suspension_of_tree, suspension_of_lists, behavior_numbered, proposal_told}
use Rattle.store_frames.specs.Commands.{request_in}
use Rattle.store_frames.specs.FrameMeanings.{unless_faulty, read_as, read_if_record, command_or_broken, error_frame, outcome_or_broken, unless_numbered, suspension_frame, frame_by, asks_ack, frame_of}
use Rattle.store_frames.specs.RecordFrames.{told_unless_faulty, told_as, told_if_record, told_request, told_waiting, told_tree, told_staying, told_awaiting, told_lists, told_number, told_error, told_suspension, told_outcome, told_proposal, told_by}
use Rattle.store_frames.specs.Answer.{IsFrame, behavior_meant}
use Rattle.store_frames.proofs.Payloads.{lists_payload}

-- ---- records

request_is : (request : Option Request) → IsFrame (command_or_broken request) (told_request request)
request_is None = tt
request_is (Some request) = record { kind = refl; payload = refl; completion = refl; second_completion = refl; moment = refl; state = refl; text = refl }

tree_is : (lacks : Bool) (awaited : Option Future)
    → IsFrame (unless_numbered lacks awaited (Frame.Suspend (suspension_of_tree (record { awaiting_on = awaited })))) (told_waiting lacks awaited)
tree_is lacks None = tt
tree_is lacks (Some future) = by_test (lacks && has_number (future_tree future))
  where
    by_test : (b : Bool)
        → IsFrame (if b then Frame.Broken else Frame.Suspend (Some (ForTree (future_tree future)))) (if b then answers.Broken else answers.Suspension (suspension_payload (future_tree future)))
    by_test true = tt
    by_test false = refl

staying_is : (lacks : Bool) (awaited : Option Future) → IsFrame (unless_numbered lacks awaited (Frame.AwaitingOn (option_map future_tree awaited))) (told_staying lacks awaited)
staying_is lacks None = tt
staying_is lacks (Some future) = by_test (lacks && has_number (future_tree future))
  where
    by_test : (b : Bool) → IsFrame (if b then Frame.Broken else Frame.AwaitingOn (Some (future_tree future))) (if b then answers.Broken else answers.AwaitingOn)
    by_test true = tt
    by_test false = tt

lists_are : (one : SuspensionMessageV6) → IsFrame (Frame.Suspend (Some (suspension_of_lists one))) (told_lists one)
lists_are one = record { lists = one; lists_are = refl; payload_is = lists_payload one }

named_by : (pauses fails : Bool) → behavior_meant (if pauses then behaviors.Pause else (if fails then behaviors.Fail else behaviors.Retry)) ≡ (if pauses then Pause else (if fails then Fail else Retry))
named_by true fails = refl
named_by false true = refl
named_by false false = refl

behavior_by : (is_before : Bool) (number : ℕ) → behavior_meant (if is_before then behaviors.Retry else told_number number) ≡ (if is_before then Retry else behavior_numbered number)
behavior_by true number = refl
behavior_by false number = named_by (number == 1) (number == 2)

error_is : (version : ℕ) (one : ErrorMessage) → IsFrame (error_frame version one) (told_error version one)
error_is version one = record { code_is = refl; message_is = refl; behavior_is = behavior_by (lacks_feature version features.ErrorBehavior) one.behavior; delay_is = refl }

outcome_is : (is_acknowledged : Bool) (outcome : Option (ℕ × NonEmptyValue)) → IsFrame (outcome_or_broken is_acknowledged outcome) (told_outcome is_acknowledged outcome)
outcome_is is_acknowledged None = tt
outcome_is is_acknowledged (Some outcome) = record { completion_is = refl; result_is = refl; acknowledged_is = refl }

-- ---- payloads

unless_is : (fault : Option Fault) (frame : Frame) (answer : AttemptFrame) → IsFrame frame answer → IsFrame (unless_faulty fault frame) (told_unless_faulty fault answer)
unless_is None frame answer h = h
unless_is (Some BadPayload) frame answer h = tt
unless_is (Some TooDeep) frame answer h = tt

read_is : (t : RecordType) (payload : List ℕ) (frame : List Field → Frame) (answer : List Field → AttemptFrame)
    → ((fs : List Field) → IsFrame (frame fs) (answer fs)) → IsFrame (read_as t frame payload) (told_as t answer payload)
read_is t payload frame answer h = unless_is (payload_fault LEVELS t payload) (frame (fields payload)) (answer (fields payload)) (h (fields payload))

suspension_is : (is_before : Bool) (version : ℕ) (payload : List ℕ) → IsFrame (suspension_frame is_before (lacks_feature version features.AtLeast) payload) (told_suspension is_before version payload)
suspension_is true version payload =
    read_is records.SuspensionV6 payload (λ fs. Frame.Suspend (Some (suspension_of_lists (suspension_v6_of LEVELS fs)))) (λ fs. told_lists (suspension_v6_of LEVELS fs)) (λ fs. lists_are (suspension_v6_of LEVELS fs))
suspension_is false version payload =
    let lacks = lacks_feature version features.AtLeast in
    read_is records.Suspension payload (λ fs. unless_numbered lacks (suspension_of LEVELS fs).awaiting_on (Frame.Suspend (suspension_of_tree (suspension_of LEVELS fs)))) (λ fs. told_tree version (suspension_of LEVELS fs))
    (λ fs. tree_is lacks (suspension_of LEVELS fs).awaiting_on)

if_record_is : (found : Option RecordType) (payload : List ℕ) (frame : List Field → Frame) (answer : List Field → AttemptFrame)
    → ((fs : List Field) → IsFrame (frame fs) (answer fs)) → IsFrame (read_if_record found frame payload) (told_if_record found answer payload)
if_record_is None payload frame answer h = tt
if_record_is (Some t) payload frame answer h = read_is t payload frame answer h

told_is : (version : ℕ) (kind : FrameKind) (ty : MessageType) (asks : Bool) (payload : List ℕ) → IsFrame (frame_by version kind ty asks payload) (told_by version kind ty asks payload)
told_is version kinds.Command ty asks payload =
    if_record_is (record_of ty) payload (λ fs. command_or_broken (request_in ty fs)) (λ fs. told_request (request_in ty fs)) (λ fs. request_is (request_in ty fs))
told_is version kinds.AwaitingOn ty asks payload =
    let lacks = lacks_feature version features.AtLeast in
    read_is records.AwaitingOn payload (λ fs. unless_numbered lacks (awaiting_on_of LEVELS fs).awaiting_on (Frame.AwaitingOn (awaited_tree (awaiting_on_of LEVELS fs)))) (λ fs. told_awaiting version (awaiting_on_of LEVELS fs)) (λ fs. staying_is lacks (awaiting_on_of LEVELS fs).awaiting_on)
told_is version kinds.Suspension ty asks payload = suspension_is (lacks_feature version features.AwaitTree) version payload
told_is version kinds.Error ty asks payload =
    read_is records.Error payload (λ fs. error_frame version (error_of LEVELS fs)) (λ fs. told_error version (error_of LEVELS fs)) (λ fs. error_is version (error_of LEVELS fs))
told_is version kinds.End ty asks payload = read_is records.End payload (λ fs. Frame.End) (λ fs. answers.End) (λ fs. tt)
told_is version kinds.RunOutcome ty asks payload =
    read_is records.ProposeRunCompletion payload (λ fs. outcome_or_broken asks (proposal_told (propose_run_completion_of LEVELS fs))) (λ fs. told_proposal asks (propose_run_completion_of LEVELS fs))
    (λ fs. outcome_is asks (proposal_told (propose_run_completion_of LEVELS fs)))
told_is version kinds.Other ty asks payload = if_record_is (record_of ty) payload (λ fs. Frame.NotAccepted) (λ fs. answers.NotAccepted) (λ fs. tt)

-- ---- messages

moved : (version : ℕ) (one other : MessageType) (asks asked : Bool) (payload all : List ℕ) → one ≡ other → asks ≡ asked → payload ≡ all
    → told_by version (frame_kind one) one asks payload ≡ told_by version (frame_kind other) other asked all
moved version one other asks asked payload all same flag whole = λ i. told_by version (frame_kind (same i)) (same i) (flag i) (whole i)

pub meant : {E : Type 0} (version : ℕ) (m : RawMessage) (ty : MessageType) (asks : Bool) (payload : List ℕ) (result : Result AttemptFrame E)
    → ty ≡ message_type m.header → asks ≡ asks_ack m.header → payload ≡ m.payload → IfOk result (λ frame. frame ≡ told_by version (frame_kind ty) ty asks payload) → IfOk result (IsFrame (frame_of version m))
meant version m ty asks payload (Ok frame) same flag whole is =
    subst (λ (told : AttemptFrame). IsFrame (frame_of version m) told) (sym (is ∙ moved version ty (message_type m.header) asks (asks_ack m.header) payload m.payload same flag whole))
    (told_is version (frame_kind (message_type m.header)) (message_type m.header) (asks_ack m.header) m.payload)
meant version m ty asks payload (Err e) same flag whole is = tt
