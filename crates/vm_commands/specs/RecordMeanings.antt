-- When a record is a command that calls make: what its messages mean, how it is compared, and of which type it is.
use Rattle.std.specs.Prelude.{◌≡◌, ◌↔◌, ℕ, Bool, true, List, Option, Some, None, refl}
use Rattle.std.specs.Option.{is_some, option_map}
use Rattle.std.proofs.Common.{ap, sym, ◌∙◌}
use Rattle.protocol_table.specs.declared.table.RecordType.{RecordType}
use Rattle.protocol_wire.specs.Wire.{Field}
use Rattle.protocol_wire.specs.Parts.{Part, payload_of}
use Rattle.journal_model.specs.Request.{Request}
use Rattle.journal_model.specs.Spelling.{request_type, request_payload}
use Rattle.protocol_types.specs.declared.message_type.MessageType.{MessageType}
use Rattle.protocol_stream.specs.declared.decoder.RawMessage.{RawMessage}
use Rattle.protocol_stream.specs.Header.{message_type}
use Rattle.protocol_messages.specs.RecordMessage.{type_of_record}
use Rattle.protocol_messages.specs.Decodings.{HasItsType}
use Rattle.protocol_equality.specs.Laws.{AreHeaderEqual}
use Rattle.protocol_equality.specs.EqualityTests.{DecidesErased}
use Rattle.protocol_laws.specs.Commands.{CommandRecord, command_record, command_parts}
use Rattle.protocol_laws.specs.Requests.{request_told}
use Rattle.protocol_laws.proofs.Back.{records_told}
use Rattle.protocol_laws.proofs.Requests.{requests_spelled}
use Rattle.vm_commands.specs.HeaderEquality.{same_record, type_of_command, is_recorded}
use Rattle.vm_commands.specs.RecordedCommands.{request_read, command_by, command_of}

pub record MeansRequests {M : Type 0} (t : RecordType) (of : ℕ → List Field → M) (parts : M → List Part) (erased : Bool → M → M) (request_of : M → Option Request) : Type 0 where
  -- a message of its type is the request that the payload stands for
  pub meant : (m : RawMessage) → HasItsType t m → command_of m ≡ request_read t of request_of m.payload
  -- it has the header of a command that a call makes exactly where its request has that of the call's
  pub compared : (ignoring : Bool) (recorded made : M) (request : Request) → request_of made ≡ Some request
      → AreHeaderEqual erased ignoring recorded made ↔ (is_recorded ignoring (request_of recorded) request ≡ true)
  -- and what it stands for is of its type
  pub typed : (one : M) (request : Request) → request_of one ≡ Some request → type_of_record t ≡ Some (request_type request)
  -- with that request's payload
  pub spelled : (one : M) (request : Request) → request_of one ≡ Some request → payload_of (parts one) ≡ request_payload request

-- ---- what shows it

pub request_typed : (request : Request) → request_type request ≡ type_of_command (command_record request)
request_typed (Request.Output value name) = refl
request_typed _ = refl

-- a message of this type is read as this type's record
meant_by : (ty : MessageType) (m : RawMessage) → Some ty ≡ Some (message_type m.header) → command_of m ≡ command_by ty m.payload
meant_by ty m h =
    let same : ty ≡ message_type m.header = cc in
    ap (λ (x : MessageType). command_by x m.payload) (sym same)

compared_by : {M : Type 0} (ignoring : Bool) (wrap : M → CommandRecord) (request_of : M → Option Request) (test : M → M → Bool) (erased : M → M) → DecidesErased test erased
    → ((x y : M) → same_record ignoring (wrap x) (wrap y) ≡ test x y) → ((x : M) → request_told (wrap x) ≡ request_of x)
    → ((x y : M) → erased x ≡ erased y → is_some (request_of x) ≡ is_some (request_of y))
    → (x y : M) (made : Request) → request_of y ≡ Some made → (found : Option Request) → request_of x ≡ found → (erased x ≡ erased y) ↔ (is_recorded ignoring found made ≡ true)
compared_by ignoring wrap request_of test erased tells same told present x y made e None none =
    (λ h. sym (ap is_some none) ∙ present x y h ∙ ap is_some e, λ h. cc)
compared_by ignoring wrap request_of test erased tells same told present x y made e (Some recorded) is =
    let one : command_record recorded ≡ wrap x = records_told (wrap x) recorded (told x ∙ is) in
    let other : command_record made ≡ wrap y = records_told (wrap y) made (told y ∙ e) in
    let tested : same_record ignoring (command_record recorded) (command_record made) ≡ test x y = (λ i. same_record ignoring (one i) (other i)) ∙ same x y in
    (λ h. tested ∙ tells.found x y h, λ h. tells.alike x y (sym tested ∙ h))

-- by the constructor of the record, the type of its messages and the test of its header
pub means : {M : Type 0} {t : RecordType} {of : ℕ → List Field → M} {parts : M → List Part} {erased : Bool → M → M} {request_of : M → Option Request}
    (wrap : M → CommandRecord) (ty : MessageType) (test : Bool → M → M → Bool) → ((ignoring : Bool) → DecidesErased (test ignoring) (erased ignoring))
    → type_of_record t ≡ Some ty → ((payload : List ℕ) → command_by ty payload ≡ request_read t of request_of payload)
    → ((x : M) → request_told (wrap x) ≡ request_of x) → ((x : M) → type_of_command (wrap x) ≡ ty) → ((x : M) → command_parts (wrap x) ≡ parts x)
    → ((ignoring : Bool) (x y : M) → same_record ignoring (wrap x) (wrap y) ≡ test ignoring x y)
    → ((ignoring : Bool) (x y : M) → erased ignoring x ≡ erased ignoring y → is_some (request_of x) ≡ is_some (request_of y))
    → MeansRequests t of parts erased request_of
means {erased = erased} {request_of = request_of} wrap ty test tells is reads told typed parted same present = record {
  meant = λ m h. meant_by ty m (sym is ∙ h) ∙ reads m.payload;
  compared = λ ignoring x y made e. compared_by ignoring wrap request_of (test ignoring) (erased ignoring) (tells ignoring) (same ignoring) told (present ignoring) x y made e (request_of x) refl;
  typed = λ one request h. is ∙ ap (λ (x : MessageType). Some x) (sym (request_typed request ∙ ap type_of_command (records_told (wrap one) request (told one ∙ h)) ∙ typed one));
  spelled = λ one request h. ap payload_of (sym (parted one)) ∙ ap (λ (r : CommandRecord). payload_of (command_parts r)) (sym (records_told (wrap one) request (told one ∙ h))) ∙ requests_spelled request;
}

some_map : {A B : Type 0} (f : A → B) (o : Option A) → is_some (option_map f o) ≡ is_some o
some_map f None = refl
some_map f (Some x) = refl

-- what each request has is there in both, where what is compared of it is the same
pub as_present : {A B C : Type 0} (kept : A → C) (f g : A → B) (p q : Option A) → option_map kept p ≡ option_map kept q → is_some (option_map f p) ≡ is_some (option_map g q)
as_present kept f g p q h = some_map f p ∙ sym (some_map kept p) ∙ ap is_some h ∙ some_map kept q ∙ sym (some_map g q)
