-- The payload of a recorded request is decoded to the record that it came as.
use Rattle.std.proofs.Common.{◌≡◌, refl, sym, ap, subst, ◌∙◌, ◌<◌, ◌^◌, true, false, Option, Some, None, length, option_map}
use Rattle.journal_model.specs.Notification.{Bytes}
use Rattle.journal_model.specs.Request.{Request}
use Rattle.journal_model.specs.Spelling.{request_payload, request_type}
use Rattle.protocol_table.specs.declared.table.RecordType.TheVariants as records
use Rattle.protocol_types.specs.declared.message_type.MessageType.{MessageType}
use Rattle.protocol_wire.specs.declared.record.TheConstants.{LEVELS}
use Rattle.protocol_wire.specs.declared.check.Fault.{Fault}
use Rattle.protocol_wire.specs.Check.{payload_fault}
use Rattle.protocol_wire.specs.Parts.{payload_of}
use Rattle.protocol_wire.specs.DecodingAnswers.{IsRead}
use Rattle.protocol_calls.specs.declared.send_signal_command.SendSignalCommandMessage.{SendSignalCommandMessage}
use Rattle.protocol_calls.specs.declared.complete_awakeable_command.CompleteAwakeableCommandMessage.{CompleteAwakeableCommandMessage}
use Rattle.protocol_calls.specs.SendSignalCommand.{send_signal_command_of, send_signal_command_parts}
use Rattle.protocol_calls.specs.CompleteAwakeableCommand.{complete_awakeable_command_of, complete_awakeable_command_parts}
use Rattle.protocol_calls.specs.ReadBack.{complete_awakeable_command_reads, send_signal_command_reads}
use Rattle.protocol_laws.specs.Commands as commands
use Rattle.protocol_laws.specs.Requests.{request_of_complete_awakeable, request_of_send_signal}
use Rattle.store_frames.specs.Commands.{spells, SpellsRequests}
use Rattle.delivery_laws.specs.Message.{Message, message_of}
use Rattle.store_deliveries.specs.declared.recorded.RecordedMessage.{RecordedMessage}
use Rattle.store_deliveries.specs.RecordedMessages.{asked_by, CanBeRead, CompletionRead, is_completion_type, is_signal_type, IsAsked, message_told, SignalRead}

-- ---- signals

module _ (request : Request) (it : SignalRead request) (short : length (request_payload request) < 2 ^ 64) (payload : Bytes) (same : payload ≡ request_payload request) where
  signal_back : IsRead LEVELS records.SendSignalCommand send_signal_command_of payload it.one
  signal_back =
      let law : SpellsRequests send_signal_command_parts request_of_send_signal = spells commands.CommandRecord.SendSignal (λ one. refl) (λ one. refl) in
      let spelled : payload_of (send_signal_command_parts it.one) ≡ request_payload request = law.payload it.one request it.is in
      subst (λ (bytes : Bytes). IsRead LEVELS records.SendSignalCommand send_signal_command_of bytes it.one) (spelled ∙ sym same)
      (send_signal_command_reads LEVELS it.one it.fits (subst (λ (bytes : Bytes). length bytes < 2 ^ 64) (sym spelled) short))

  pub signal_told : (message : Message) → message_of request ≡ Some message → (one : SendSignalCommandMessage) → IsRead LEVELS records.SendSignalCommand send_signal_command_of payload one
      → (found : Option RecordedMessage) → IsAsked (request_of_send_signal one) found → option_map message_told found ≡ Some message
  signal_told message is one read found e =
      e ∙ ap (λ (o : SendSignalCommandMessage). asked_by (request_of_send_signal o)) (read.value ∙ sym signal_back.value) ∙ ap asked_by it.is ∙ is

  pub signal_sound : (fault : Fault) → payload_fault LEVELS records.SendSignalCommand payload ≡ Some fault → ⊥
  signal_sound fault e = let none : None ≡ Some fault = sym signal_back.sound ∙ e in cc

-- ---- completions of awakeables

module _ (request : Request) (it : CompletionRead request) (short : length (request_payload request) < 2 ^ 64) (payload : Bytes) (same : payload ≡ request_payload request) where
  completion_back : IsRead LEVELS records.CompleteAwakeableCommand complete_awakeable_command_of payload it.one
  completion_back =
      let law : SpellsRequests complete_awakeable_command_parts request_of_complete_awakeable = spells commands.CommandRecord.CompleteAwakeable (λ one. refl) (λ one. refl) in
      let spelled : payload_of (complete_awakeable_command_parts it.one) ≡ request_payload request = law.payload it.one request it.is in
      subst (λ (bytes : Bytes). IsRead LEVELS records.CompleteAwakeableCommand complete_awakeable_command_of bytes it.one) (spelled ∙ sym same)
      (complete_awakeable_command_reads LEVELS it.one it.fits (subst (λ (bytes : Bytes). length bytes < 2 ^ 64) (sym spelled) short))

  pub completion_told : (message : Message) → message_of request ≡ Some message → (one : CompleteAwakeableCommandMessage) → IsRead LEVELS records.CompleteAwakeableCommand complete_awakeable_command_of payload one
      → (found : Option RecordedMessage) → IsAsked (request_of_complete_awakeable one) found → option_map message_told found ≡ Some message
  completion_told message is one read found e =
      e ∙ ap (λ (o : CompleteAwakeableCommandMessage). asked_by (request_of_complete_awakeable o)) (read.value ∙ sym completion_back.value) ∙ ap asked_by it.is ∙ is

  pub completion_sound : (fault : Fault) → payload_fault LEVELS records.CompleteAwakeableCommand payload ≡ Some fault → ⊥
  completion_sound fault e = let none : None ≡ Some fault = sym completion_back.sound ∙ e in cc

-- ---- by the type

pub signal_asked : (kind : MessageType) (request : Request) → kind ≡ request_type request → is_signal_type kind ≡ true → CanBeRead request → SignalRead request
signal_asked kind request e told can = by_request request (sym (ap is_signal_type e) ∙ told) can
  where
    by_request : (r : Request) → is_signal_type (request_type r) ≡ true → CanBeRead r → SignalRead r
    by_request (Request.SendSignal target key value name) f can = can
    by_request _ f can = cc

pub completion_asked : (kind : MessageType) (request : Request) → kind ≡ request_type request → is_completion_type kind ≡ true → CanBeRead request → CompletionRead request
completion_asked kind request e told can = by_request request (sym (ap is_completion_type e) ∙ told) can
  where
    by_request : (r : Request) → is_completion_type (request_type r) ≡ true → CanBeRead r → CompletionRead r
    by_request (Request.CompleteAwakeable id value name) f can = can
    by_request _ f can = cc

pub none_asked : (kind : MessageType) (request : Request) (message : Message) → kind ≡ request_type request → is_signal_type kind ≡ false → is_completion_type kind ≡ false
    → message_of request ≡ Some message → ⊥
none_asked kind request message e signal completion is =
    by_request request (sym (ap is_signal_type e) ∙ signal) (sym (ap is_completion_type e) ∙ completion) is
  where
    by_request : (r : Request) → is_signal_type (request_type r) ≡ false → is_completion_type (request_type r) ≡ false → message_of r ≡ Some message → ⊥
    by_request (Request.SendSignal target key value name) f g h = cc
    by_request (Request.CompleteAwakeable id value name) f g h = cc
    by_request _ f g h = cc
