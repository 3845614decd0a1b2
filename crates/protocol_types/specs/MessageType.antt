-- The types of messages and their numbers.
use Rattle.std.specs.Prelude.{◌≡◌, ℕ, ◌^◌, ◌<◌, ◌==◌, bit_and, if◌then◌else◌, Bool, true, false, List, [], ◌∷◌, Option, Some, None, Result, Ok, Err, find}
use Rattle.protocol_types.specs.declared.message_type.MessageType.{MessageType}
use Rattle.protocol_types.specs.declared.message_type.MessageType.TheVariants.{Start, Suspension, Error, End, AwaitingOn, ProposeRunCompletion, ProposeRunCompletionAck, GetStateEphemeralCommand, GetStateEphemeralNotification, InputCommand, OutputCommand, GetLazyStateCommand, SetStateCommand, ClearStateCommand, ClearAllStateCommand, GetLazyStateKeysCommand, GetEagerStateCommand, GetEagerStateKeysCommand, GetPromiseCommand, PeekPromiseCommand, CompletePromiseCommand, SleepCommand, CallCommand, OneWayCallCommand, SendSignalCommand, RunCommand, AttachInvocationCommand, GetInvocationOutputCommand, CompleteAwakeableCommand, GetLazyStateCompletionNotification, GetLazyStateKeysCompletionNotification, GetPromiseCompletionNotification, PeekPromiseCompletionNotification, CompletePromiseCompletionNotification, SleepCompletionNotification, CallCompletionNotification, CallInvocationIdCompletionNotification, RunCompletionNotification, AttachInvocationCompletionNotification, GetInvocationOutputCompletionNotification, SignalNotification, CustomEntry}
use Rattle.protocol_types.specs.declared.message_type.UnknownMessageType.{UnknownMessageType}

-- the number of a type on the wire
abbrev pub type_number : MessageType → ℕ
type_number Start = 0x0000
type_number Suspension = 0x0001
type_number Error = 0x0002
type_number End = 0x0003
type_number AwaitingOn = 0x0004
type_number ProposeRunCompletion = 0x0005
type_number ProposeRunCompletionAck = 0x0006
type_number GetStateEphemeralCommand = 0x0007
type_number GetStateEphemeralNotification = 0x0008
type_number InputCommand = 0x0400
type_number OutputCommand = 0x0401
type_number GetLazyStateCommand = 0x0402
type_number SetStateCommand = 0x0403
type_number ClearStateCommand = 0x0404
type_number ClearAllStateCommand = 0x0405
type_number GetLazyStateKeysCommand = 0x0406
type_number GetEagerStateCommand = 0x0407
type_number GetEagerStateKeysCommand = 0x0408
type_number GetPromiseCommand = 0x0409
type_number PeekPromiseCommand = 0x040a
type_number CompletePromiseCommand = 0x040b
type_number SleepCommand = 0x040c
type_number CallCommand = 0x040d
type_number OneWayCallCommand = 0x040e
type_number SendSignalCommand = 0x040f
type_number RunCommand = 0x0410
type_number AttachInvocationCommand = 0x0411
type_number GetInvocationOutputCommand = 0x0412
type_number CompleteAwakeableCommand = 0x0413
type_number GetLazyStateCompletionNotification = 0x8002
type_number GetLazyStateKeysCompletionNotification = 0x8006
type_number GetPromiseCompletionNotification = 0x8009
type_number PeekPromiseCompletionNotification = 0x800a
type_number CompletePromiseCompletionNotification = 0x800b
type_number SleepCompletionNotification = 0x800c
type_number CallCompletionNotification = 0x800d
type_number CallInvocationIdCompletionNotification = 0x800e
type_number RunCompletionNotification = 0x8010
type_number AttachInvocationCompletionNotification = 0x8011
type_number GetInvocationOutputCompletionNotification = 0x8012
type_number SignalNotification = 0xfbff
type_number (CustomEntry number) = number

-- the types that have a name
abbrev pub named_types : List MessageType
named_types =
    Start ∷ Suspension ∷ Error ∷ End ∷ AwaitingOn ∷ ProposeRunCompletion ∷ ProposeRunCompletionAck ∷ GetStateEphemeralCommand ∷ GetStateEphemeralNotification
    ∷ InputCommand ∷ OutputCommand ∷ GetLazyStateCommand ∷ SetStateCommand ∷ ClearStateCommand ∷ ClearAllStateCommand ∷ GetLazyStateKeysCommand
    ∷ GetEagerStateCommand ∷ GetEagerStateKeysCommand ∷ GetPromiseCommand ∷ PeekPromiseCommand ∷ CompletePromiseCommand ∷ SleepCommand ∷ CallCommand
    ∷ OneWayCallCommand ∷ SendSignalCommand ∷ RunCommand ∷ AttachInvocationCommand ∷ GetInvocationOutputCommand ∷ CompleteAwakeableCommand
    ∷ GetLazyStateCompletionNotification ∷ GetLazyStateKeysCompletionNotification ∷ GetPromiseCompletionNotification ∷ PeekPromiseCompletionNotification
    ∷ CompletePromiseCompletionNotification ∷ SleepCompletionNotification ∷ CallCompletionNotification ∷ CallInvocationIdCompletionNotification
    ∷ RunCompletionNotification ∷ AttachInvocationCompletionNotification ∷ GetInvocationOutputCompletionNotification ∷ SignalNotification ∷ []

-- the type with a name that has this number
unfoldable pub named_type : ℕ → Option MessageType
named_type number = find (λ ty. type_number ty == number) named_types

-- a number of no named type is a custom entry where one of its six highest bits is set
abbrev pub custom_type : ℕ → Result MessageType UnknownMessageType
custom_type number = if bit_and number 0xFC00 == 0 then Err (record { 0 = number }) else Ok (CustomEntry number)

abbrev pub named_or_custom : ℕ → Option MessageType → Result MessageType UnknownMessageType
named_or_custom number (Some ty) = Ok ty
named_or_custom number None = custom_type number

-- what a number means as a type
abbrev pub type_numbered : ℕ → Result MessageType UnknownMessageType
type_numbered number = named_or_custom number (named_type number)

abbrev pub is_command : MessageType → Bool
is_command ty = bit_and (type_number ty) 0xFC00 == 0x0400

abbrev pub is_notification : MessageType → Bool
is_notification ty = if bit_and (type_number ty) 0x8000 == 0 then false else true

-- a type whose number stands for it
pub record IsWireType (ty : MessageType) : Type 0 where
  pub number : type_number ty < 2 ^ 16
  pub read : type_numbered (type_number ty) ≡ Ok ty

-- a proposal alone can request an acknowledgement
abbrev pub allows_ack : MessageType → Bool
allows_ack ProposeRunCompletion = true
allows_ack _ = false
