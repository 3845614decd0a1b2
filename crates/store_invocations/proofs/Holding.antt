-- An output that was read of a message is one that a message can hold.
use Rattle.std.proofs.Common.{◌≡◌, refl, sym, ap, subst, ◌∙◌, ◌⊎◌, inl, inr, ℕ, Bool, true, false, List, Option, Some, None, option_map}
use Rattle.journal_model.specs.Notification.{Text}
use Rattle.journal_model.specs.declared.value.NonEmptyValue.{NonEmptyValue}
use Rattle.journal_model.specs.Request.{Request}
use Rattle.journal_model.specs.Event.{Frame}
use Rattle.protocol_table.specs.declared.table.RecordType.{RecordType}
use Rattle.protocol_table.specs.declared.table.RecordType.TheVariants as records
use Rattle.protocol_wire.specs.declared.record.TheConstants.{LEVELS}
use Rattle.protocol_wire.specs.declared.check.Fault.{Fault}
use Rattle.protocol_wire.specs.declared.check.Fault.TheVariants.{BadPayload, TooDeep}
use Rattle.protocol_wire.specs.Check.{payload_fault}
use Rattle.protocol_wire.specs.Fields.{fields}
use Rattle.protocol_records.specs.declared.output_command.OutputCommandMessage.{OutputCommandMessage}
use Rattle.protocol_records.specs.declared.output_command.OutputCommandResult.{OutputCommandResult}
use Rattle.protocol_records.specs.OutputCommand.{OutputCommandFits, output_command_of}
use Rattle.protocol_records.specs.declared.future.Future.{Future}
use Rattle.protocol_records.specs.AwaitingOn.{awaiting_on_of}
use Rattle.protocol_records.specs.Suspension.{suspension_of}
use Rattle.protocol_records.specs.SuspensionV6.{suspension_v6_of}
use Rattle.protocol_controls.specs.Error.{error_of}
use Rattle.protocol_controls.specs.ProposeRunCompletion.{propose_run_completion_of}
use Rattle.protocol_stream.specs.Header.{message_type}
use Rattle.protocol_stream.specs.Records.{output_record}
use Rattle.protocol_types.specs.declared.message_type.MessageType.{MessageType}
use Rattle.protocol_types.specs.declared.message_type.MessageType.TheVariants as types
use Rattle.protocol_types.specs.declared.feature.Feature.TheVariants as features
use Rattle.protocol_types.specs.Feature.{lacks_feature}
use Rattle.store_frames.specs.declared.kind.FrameKind.{FrameKind}
use Rattle.store_frames.specs.declared.kind.FrameKind.TheVariants as kinds
use Rattle.store_frames.specs.Kind.{frame_kind, record_of}
use Rattle.store_frames.proofs.Numbered.{numbered_or_not}
use Rattle.store_frames.specs.FrameMeanings.{asks_ack, command_or_broken, error_frame, frame_by, outcome_or_broken, read_as, read_if_record, suspension_frame, unless_faulty, unless_numbered}
use Rattle.store_frames.specs.Commands.{request_in}
use Rattle.store_frames.proofs.Types.{request_typed}
use Rattle.protocol_laws.specs.Requests.{request_of_output, value_put_out}
use Rattle.protocol_laws.proofs.Back.{result_back}
use Rattle.store_frames.specs.Requests.{awaited_tree, proposal_told, suspension_of_lists, suspension_of_tree}
use Rattle.store_frames.specs.ReadFrames.{IsFrameRead}
use Rattle.protocol_laws.specs.Fits.{output_command_fits}

-- an output that a message can hold: its texts are UTF-8, and a code has at most 32 bits
abbrev pub IsHeld : Request → Type 0
IsHeld (Request.Output value name) = OutputCommandFits LEVELS (output_record value name)
IsHeld _ = Unit {0}

-- ---- a record of what an output's record says is that record

held_output : (one : OutputCommandMessage) (o : Option OutputCommandResult) (value : NonEmptyValue) (name : Text) → OutputCommandFits LEVELS one → one.result ≡ o
    → command_or_broken (option_map (λ (result : OutputCommandResult). Request.Output (value_put_out result) one.name) o) ≡ Frame.Command (Request.Output value name)
    → OutputCommandFits LEVELS (output_record value name)
held_output one None value name fits is e = cc
held_output one (Some result) value name fits is e =
    let put : value_put_out result ≡ value = cc in
    let named : one.name ≡ name = cc in
    let same : one ≡ output_record (value_put_out result) one.name = λ i. record { name = one.name; result = (is ∙ ap Some (sym (result_back result))) i } in
    subst (OutputCommandFits LEVELS) (same ∙ (λ i. output_record (put i) (named i))) fits

-- ---- no other frame is an output

module _ (value : NonEmptyValue) (name : Text) where
  abbrev IsOutput : Frame → Type 0
  IsOutput frame = frame ≡ Frame.Command (Request.Output value name)

  no_fault : (o : Option Fault) (frame : Frame) → IsOutput (unless_faulty o frame) → (o ≡ None) × IsOutput frame
  no_fault None frame e = (refl, e)
  no_fault (Some BadPayload) frame e = cc
  no_fault (Some TooDeep) frame e = cc

  -- whatever is wrong with the payload
  never : (t : RecordType) (payload : List ℕ) (frame : Frame) → (IsOutput frame → ⊥) → IsOutput (unless_faulty (payload_fault LEVELS t payload) frame) → ⊥
  never t payload frame other e = other (no_fault (payload_fault LEVELS t payload) frame e).1

  no_number : (lacks : Bool) (o : Option Future) (frame : Frame) → (IsOutput frame → ⊥) → IsOutput (unless_numbered lacks o frame) → ⊥
  no_number lacks o frame other e = by_cases (numbered_or_not lacks o frame)
    where
      by_cases : (unless_numbered lacks o frame ≡ frame) ⊎ (unless_numbered lacks o frame ≡ Frame.Broken) → ⊥
      by_cases (inl is) = other (sym is ∙ e)
      by_cases (inr is) = let broken : IsOutput Frame.Broken = sym is ∙ e in cc

  no_suspension : (b lacks : Bool) (payload : List ℕ) → IsOutput (suspension_frame b lacks payload) → ⊥
  no_suspension true lacks payload e = never records.SuspensionV6 payload (Frame.Suspend (Some (suspension_of_lists (suspension_v6_of LEVELS (fields payload))))) (λ is. cc) e
  no_suspension false lacks payload e =
      let one = suspension_of LEVELS (fields payload) in
      let frame = Frame.Suspend (suspension_of_tree one) in
      never records.Suspension payload (unless_numbered lacks one.awaiting_on frame) (no_number lacks one.awaiting_on frame (λ is. cc)) e

  no_record : (o : Option RecordType) (payload : List ℕ) → IsOutput (read_if_record o (λ fs. Frame.NotAccepted) payload) → ⊥
  no_record None payload e = cc
  no_record (Some t) payload e = never t payload Frame.NotAccepted (λ is. cc) e

  output_in : (payload : List ℕ) → IsOutput (read_as records.OutputCommand (λ fs. command_or_broken (request_in types.OutputCommand fs)) payload) → OutputCommandFits LEVELS (output_record value name)
  output_in payload e =
      let one = output_command_of LEVELS (fields payload) in
      let it = no_fault (payload_fault LEVELS records.OutputCommand payload) (command_or_broken (request_of_output one)) e in
      held_output one one.result value name (output_command_fits LEVELS payload it.0) refl it.1

  -- a command that is an output came in a message of an output
  is_one : (found : Option Request) → IsOutput (command_or_broken found) → found ≡ Some (Request.Output value name)
  is_one None e = cc
  is_one (Some request) e = let same : request ≡ Request.Output value name = cc in ap Some same

  its_type : (ty : MessageType) (o : Option RecordType) (payload : List ℕ) → IsOutput (read_if_record o (λ fs. command_or_broken (request_in ty fs)) payload) → ty ≡ types.OutputCommand
  its_type ty None payload e = cc
  its_type ty (Some t) payload e =
      let it = no_fault (payload_fault LEVELS t payload) (command_or_broken (request_in ty (fields payload))) e in
      sym (request_typed ty (fields payload) (Request.Output value name) (is_one (request_in ty (fields payload)) it.1))

  command_in : (ty : MessageType) (payload : List ℕ) → IsOutput (read_if_record (record_of ty) (λ fs. command_or_broken (request_in ty fs)) payload) → OutputCommandFits LEVELS (output_record value name)
  command_in ty payload e =
      let same : ty ≡ types.OutputCommand = its_type ty (record_of ty) payload e in
      output_in payload (subst (λ (t : MessageType). IsOutput (read_if_record (record_of t) (λ fs. command_or_broken (request_in t fs)) payload)) same e)

  no_outcome : (asks : Bool) (o : Option (ℕ × NonEmptyValue)) → IsOutput (outcome_or_broken asks o) → ⊥
  no_outcome asks None e = cc
  no_outcome asks (Some outcome) e = cc

  held_by : (version : ℕ) (kind : FrameKind) (ty : MessageType) (asks : Bool) (payload : List ℕ) → IsOutput (frame_by version kind ty asks payload) → OutputCommandFits LEVELS (output_record value name)
  held_by version kinds.Command ty asks payload e = command_in ty payload e
  held_by version kinds.AwaitingOn ty asks payload e =
      let one = awaiting_on_of LEVELS (fields payload) in
      let frame = Frame.AwaitingOn (awaited_tree one) in
      let lacks = lacks_feature version features.AtLeast in
      absurd (never records.AwaitingOn payload (unless_numbered lacks one.awaiting_on frame) (no_number lacks one.awaiting_on frame (λ is. cc)) e)
  held_by version kinds.Suspension ty asks payload e = absurd (no_suspension (lacks_feature version features.AwaitTree) (lacks_feature version features.AtLeast) payload e)
  held_by version kinds.Error ty asks payload e = absurd (never records.Error payload (error_frame version (error_of LEVELS (fields payload))) (λ is. cc) e)
  held_by version kinds.End ty asks payload e = absurd (never records.End payload Frame.End (λ is. cc) e)
  held_by version kinds.RunOutcome ty asks payload e =
      let outcome = proposal_told (propose_run_completion_of LEVELS (fields payload)) in
      absurd (never records.ProposeRunCompletion payload (outcome_or_broken asks outcome) (no_outcome asks outcome) e)
  held_by version kinds.Other ty asks payload e = absurd (no_record (record_of ty) payload e)

pub request_held : (version : ℕ) (request : Request) → IsFrameRead version (Frame.Command request) → IsHeld request
request_held version (Request.Output value name) (m, e) =
    held_by value name version (frame_kind (message_type m.header)) (message_type m.header) (asks_ack m.header) m.payload (sym e)
request_held version _ read = tt
