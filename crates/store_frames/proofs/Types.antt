-- A request that the fields of a message stand for is of the message's type.
use Rattle.std.proofs.Common.{◌≡◌, List, Option, Some, None, option_map, option_and_then, refl, ap, sym, ◌∙◌}
use Rattle.protocol_wire.specs.Wire.{Field}
use Rattle.journal_model.specs.Request.{Request}
use Rattle.journal_model.specs.Spelling.{request_type}
use Rattle.protocol_types.specs.declared.message_type.MessageType.{MessageType}
use Rattle.protocol_types.specs.declared.message_type.MessageType.TheVariants as types
use Rattle.protocol_wire.specs.declared.record.TheConstants.{LEVELS}
use Rattle.protocol_calls.specs.SendSignalCommand.{send_signal_command_of}
use Rattle.protocol_calls.specs.declared.send_signal_command.SendSignalCommandMessage.{SendSignalCommandMessage}
use Rattle.protocol_calls.specs.declared.send_signal_command.SendSignalCommandSignalId.{SendSignalCommandSignalId}
use Rattle.protocol_calls.specs.declared.send_signal_command.SendSignalCommandResult.{SendSignalCommandResult}
use Rattle.protocol_laws.specs.Requests.{signal_key_told, signal_value_told}
use Rattle.store_frames.specs.Commands.{request_in}

-- a request, where there is one, is of this type
abbrev IsOfType : MessageType → Option Request → Type 0
IsOfType ty found = (request : Request) → found ≡ Some request → request_type request ≡ ty

some_is : (ty : MessageType) (found : Request) → request_type found ≡ ty → IsOfType ty (Some found)
some_is ty found is request h = let same : found ≡ request = cc in ap request_type (sym same) ∙ is

map_is : {A : Type 0} (ty : MessageType) (f : A → Request) (value : Option A) → ((a : A) → request_type (f a) ≡ ty) → IsOfType ty (option_map f value)
map_is ty f None is request h = cc
map_is ty f (Some a) is request h = some_is ty (f a) (is a) request h

then_is : {A : Type 0} (ty : MessageType) (f : A → Option Request) (value : Option A) → ((a : A) → IsOfType ty (f a)) → IsOfType ty (option_and_then f value)
then_is ty f None is request h = cc
then_is ty f (Some a) is request h = is a request h

abbrev signalled : SendSignalCommandMessage → SendSignalCommandSignalId → SendSignalCommandResult → Request
signalled one key value = Request.SendSignal one.target_invocation_id (signal_key_told key) (signal_value_told value) one.entry_name

pub request_typed : (ty : MessageType) (fs : List Field) → IsOfType ty (request_in ty fs)
request_typed types.OutputCommand fs = map_is types.OutputCommand _ _ (λ held. refl)
request_typed types.GetLazyStateCommand fs = some_is types.GetLazyStateCommand _ refl
request_typed types.GetEagerStateCommand fs = map_is types.GetEagerStateCommand _ _ (λ held. refl)
request_typed types.GetLazyStateKeysCommand fs = some_is types.GetLazyStateKeysCommand _ refl
request_typed types.GetEagerStateKeysCommand fs = map_is types.GetEagerStateKeysCommand _ _ (λ held. refl)
request_typed types.SetStateCommand fs = map_is types.SetStateCommand _ _ (λ held. refl)
request_typed types.ClearStateCommand fs = some_is types.ClearStateCommand _ refl
request_typed types.ClearAllStateCommand fs = some_is types.ClearAllStateCommand _ refl
request_typed types.GetPromiseCommand fs = some_is types.GetPromiseCommand _ refl
request_typed types.PeekPromiseCommand fs = some_is types.PeekPromiseCommand _ refl
request_typed types.CompletePromiseCommand fs = map_is types.CompletePromiseCommand _ _ (λ held. refl)
request_typed types.SleepCommand fs = some_is types.SleepCommand _ refl
request_typed types.CallCommand fs = some_is types.CallCommand _ refl
request_typed types.OneWayCallCommand fs = some_is types.OneWayCallCommand _ refl
request_typed types.SendSignalCommand fs =
    let one = send_signal_command_of LEVELS fs in
    then_is types.SendSignalCommand (λ (key : SendSignalCommandSignalId). option_map (λ (value : SendSignalCommandResult). signalled one key value) one.result) one.signal_id
    (λ key. map_is types.SendSignalCommand (signalled one key) one.result (λ value. refl))
request_typed types.RunCommand fs = some_is types.RunCommand _ refl
request_typed types.AttachInvocationCommand fs = map_is types.AttachInvocationCommand _ _ (λ held. refl)
request_typed types.GetInvocationOutputCommand fs = map_is types.GetInvocationOutputCommand _ _ (λ held. refl)
request_typed types.CompleteAwakeableCommand fs = map_is types.CompleteAwakeableCommand _ _ (λ held. refl)
request_typed _ fs = λ request h. cc
