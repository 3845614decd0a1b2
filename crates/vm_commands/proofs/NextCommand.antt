-- What is taken as a call's command is the request that is matched.
use Rattle.std.proofs.Common.{◌≡◌, ℕ, ℤ, Bool, true, false, if◌then◌else◌, List, [], ◌∷◌, drop, Option, Some, None, Result, Ok, Err, refl, ap, sym, subst, ◌∙◌}
use Rattle.protocol_table.specs.declared.table.RecordType.{RecordType}
use Rattle.protocol_wire.specs.Wire.{Field}
use Rattle.protocol_wire.specs.Fields.{fields}
use Rattle.protocol_wire.specs.Check.{payload_fault}
use Rattle.protocol_wire.specs.declared.check.Fault.{Fault}
use Rattle.protocol_wire.specs.Parts.{Part}
use Rattle.protocol_wire.specs.DecodingAnswers.{IsRead}
use Rattle.protocol_wire.specs.declared.record.TheConstants.{LEVELS}
use Rattle.journal_model.specs.Request.{Request}
use Rattle.journal_model.specs.Spelling.{request_type}
use Rattle.attempt_model.specs.Requests.{Commands, PutState, put_one}
use Rattle.protocol_types.specs.declared.message_type.MessageType.{MessageType}
use Rattle.protocol_stream.specs.declared.decoder.RawMessage.{RawMessage}
use Rattle.protocol_stream.specs.declared.decoder.DecodingError.{DecodingError}
use Rattle.protocol_stream.specs.declared.decoder.DecodingError.TheVariants as unread
use Rattle.protocol_messages.specs.Decodings.{DecodesTo, HasItsType, IsOtherType}
use Rattle.protocol_equality.specs.Laws.{AreHeaderEqual}
use Rattle.protocol_differences.specs.declared.mismatch.CommandMismatchError.{CommandMismatchError}
use Rattle.vm_commands.specs.declared.replay_error.ReplayError.{ReplayError}
use Rattle.vm_commands.specs.declared.replay_error.ReplayError.TheVariants.{Unavailable, Decoding, Mismatch, OutOfMemory}
use Rattle.vm_commands.specs.HeaderEquality.{header_equal, is_recorded}
use Rattle.vm_commands.specs.RecordedCommands.{unless_wrong, command_of, commands_of}
use Rattle.vm_commands.specs.RecordMeanings.{MeansRequests}
use Rattle.vm_commands.specs.NextCommand.{next_of, unread_as, both_told, Compares, TakesAs, IsNoRequest, Matches}
use Rattle.vm_commands.proofs.Comparing.{compares_types}
use Rattle.vm_commands.proofs.Recording.{keeps_types}

-- ---- what is taken

-- a message that was read is compared
pub compares_next : {M : Type 0} (t : RecordType) (of : ℕ → List Field → M) (erased : Bool → M → M) (index : ℤ) (ignoring : Bool) (recorded made : M) (m : RawMessage) (answer : Result M (ReplayError M))
    → DecodesTo t of index m (Ok recorded) → Compares erased index ignoring recorded made answer → TakesAs t of erased index ignoring made (Some m) answer
compares_next {M} t of erased index ignoring recorded made m (Ok taken) read compared =
    subst (λ (r : M). DecodesTo t of index m (Ok r) × AreHeaderEqual erased ignoring r made) (sym compared.0) (read, compared.1)
compares_next {M} t of erased index ignoring recorded made m (Err (Mismatch error)) read compared =
    subst (λ (e : CommandMismatchError M). DecodesTo t of index m (Ok e.actual) × ((e ≡ both_told index e.actual made) × (AreHeaderEqual erased ignoring e.actual made → ⊥)))
    (sym compared.0) (read, (refl, compared.1))
compares_next t of erased index ignoring recorded made m (Err (Unavailable error)) read compared = absurd compared
compares_next t of erased index ignoring recorded made m (Err (Decoding error)) read compared = absurd compared
compares_next t of erased index ignoring recorded made m (Err OutOfMemory) read compared = tt

-- a message that cannot be read is told
pub tells_unread : {M : Type 0} (t : RecordType) (of : ℕ → List Field → M) (erased : Bool → M → M) (index : ℤ) (ignoring : Bool) (made : M) (m : RawMessage) (error : DecodingError)
    → DecodesTo t of index m (Err error) → TakesAs t of erased index ignoring made (Some m) (Err (unread_as error))
tells_unread t of erased index ignoring made m (unread.UnexpectedMessageType expected actual told) read = (read, λ e. cc)
tells_unread t of erased index ignoring made m (unread.DecodeMessage ty fault) read = (read, λ e. cc)
tells_unread t of erased index ignoring made m unread.OutOfMemory read = tt
tells_unread t of erased index ignoring made m _ read = absurd read

pub tells_next : {M : Type 0} (t : RecordType) (of : ℕ → List Field → M) (erased : Bool → M → M) (index : ℤ) (ignoring : Bool) (made : M) (m : RawMessage) (next : Option RawMessage) (error : DecodingError)
    (read : Result M DecodingError) (answer : ReplayError M) → next ≡ Some m → read ≡ Err error → DecodesTo t of index m read → answer ≡ unread_as error → TakesAs t of erased index ignoring made next (Err answer)
tells_next {M} t of erased index ignoring made m next error read answer is failed decodes told =
    let taken : TakesAs t of erased index ignoring made (Some m) (Err (unread_as error)) = tells_unread t of erased index ignoring made m error (subst (DecodesTo t of index m) failed decodes) in
    let answered_so : TakesAs t of erased index ignoring made (Some m) (Err answer) = subst (λ (r : ReplayError M). TakesAs t of erased index ignoring made (Some m) (Err r)) (sym told) taken in
    subst (λ (o : Option RawMessage). TakesAs t of erased index ignoring made o (Err answer)) (sym is) answered_so

-- the message that is taken is the first of the queue
pub first_taken : {M : Type 0} (t : RecordType) (of : ℕ → List Field → M) (erased : Bool → M → M) (index : ℤ) (ignoring : Bool) (made : M) (old : List RawMessage) (next : Option RawMessage) (answer : Result M (ReplayError M))
    → next ≡ next_of old → TakesAs t of erased index ignoring made next answer → TakesAs t of erased index ignoring made (next_of old) answer
first_taken t of erased index ignoring made old next answer first takes = subst (λ (o : Option RawMessage). TakesAs t of erased index ignoring made o answer) first takes

-- ---- what it says of requests

pub not_true : (b : Bool) → (b ≡ true → ⊥) → b ≡ false
not_true true never = absurd (never refl)
not_true false never = refl

abbrev answered : Commands → List Request → Bool → Option PutState
answered left written matched = if matched then Some (record { left = left; written = written }) else None

-- the next one that is left is matched, or it is not
pub put_matches : (ignoring : Bool) (found : Option Request) (made : Request) (left : Commands) (written : List Request) → is_recorded ignoring found made ≡ true
    → put_one (header_equal ignoring) made (found ∷ left) written ≡ Some (record { left = left; written = written })
put_matches ignoring None made left written h = cc
put_matches ignoring (Some recorded) made left written h = ap (answered left written) h

pub put_differs : (ignoring : Bool) (found : Option Request) (made : Request) (left : Commands) (written : List Request) → is_recorded ignoring found made ≡ false
    → put_one (header_equal ignoring) made (found ∷ left) written ≡ None
put_differs ignoring None made left written h = refl
put_differs ignoring (Some recorded) made left written h = ap (answered left written) h

-- a message that was read is the request of its record
pub read_as : {M : Type 0} {t : RecordType} {of : ℕ → List Field → M} {parts : M → List Part} {erased : Bool → M → M} {request_of : M → Option Request}
    → MeansRequests t of parts erased request_of → (m : RawMessage) (one : M) → HasItsType t m → IsRead LEVELS t of m.payload one → command_of m ≡ request_of one
read_as {request_of = request_of} means m one its read = means.meant m its ∙ (λ i. unless_wrong (read.sound i) (request_of ((sym read.value) i)))

-- a message that cannot be read is no request
pub never_read : {M : Type 0} {t : RecordType} {of : ℕ → List Field → M} {parts : M → List Part} {erased : Bool → M → M} {request_of : M → Option Request}
    → MeansRequests t of parts erased request_of → (m : RawMessage) (fault : Fault) → HasItsType t m → payload_fault LEVELS t m.payload ≡ Some fault → command_of m ≡ None
never_read {of = of} {request_of = request_of} means m fault its wrong = means.meant m its ∙ ap (λ (o : Option Fault). unless_wrong o (request_of (of LEVELS (fields m.payload)))) wrong

-- so what is next is none
pub no_request : (found : Option Request) (left : Commands) → found ≡ None → IsNoRequest (found ∷ left)
no_request None left none = tt
no_request (Some request) left none = cc

-- a message of another type is no request of this one's
other_differs : {M : Type 0} {t : RecordType} {of : ℕ → List Field → M} {parts : M → List Part} {erased : Bool → M → M} {request_of : M → Option Request}
    → MeansRequests t of parts erased request_of → (index : ℤ) (ignoring : Bool) (expected : M) (m : RawMessage) (wanted actual : MessageType) (told : ℤ) → IsOtherType t m index wanted actual told
    → (made : Request) → request_of expected ≡ Some made → (found : Option Request) → command_of m ≡ found → is_recorded ignoring found made ≡ false
other_differs means index ignoring expected m wanted actual told other made e None is = refl
other_differs means index ignoring expected m wanted actual told other made e (Some recorded) is =
    not_true (header_equal ignoring recorded made) (λ h.
    let asked : Some wanted ≡ Some (request_type made) = sym other.is_expected ∙ means.typed expected made e in
    let same : wanted ≡ request_type made = cc in
    other.other (other.is_there ∙ sym (keeps_types m recorded is) ∙ compares_types ignoring recorded made h ∙ sym same))

-- what was taken leaves
pub matches_first : {M : Type 0} {t : RecordType} {of : ℕ → List Field → M} {parts : M → List Part} {erased : Bool → M → M} {request_of : M → Option Request}
    → MeansRequests t of parts erased request_of → (index : ℤ) (ignoring : Bool) (expected : M) (m : RawMessage) (left : List RawMessage) (answer : Result M (ReplayError M))
    → TakesAs t of erased index ignoring expected (Some m) answer
    → (made : Request) (written : List Request) → request_of expected ≡ Some made → Matches ignoring made written (m ∷ left) answer left
matches_first means index ignoring expected m left (Ok recorded) takes made written e =
    put_matches ignoring (command_of m) made (commands_of left) written
    (ap (λ (found : Option Request). is_recorded ignoring found made) (read_as means m recorded takes.0.0 takes.0.1) ∙ (means.compared ignoring recorded expected made e).0 takes.1)
matches_first means index ignoring expected m left (Err (Mismatch error)) takes made written e =
    put_differs ignoring (command_of m) made (commands_of left) written
    (ap (λ (found : Option Request). is_recorded ignoring found made) (read_as means m error.actual takes.0.0 takes.0.1)
    ∙ not_true _ (λ h. takes.1.1 ((means.compared ignoring error.actual expected made e).1 h)))
matches_first means index ignoring expected m left (Err (Decoding (unread.UnexpectedMessageType wanted actual told))) takes made written e =
    (put_differs ignoring (command_of m) made (commands_of left) written (other_differs means index ignoring expected m wanted actual told takes.0 made e (command_of m) refl), tt)
matches_first means index ignoring expected m left (Err (Decoding (unread.DecodeMessage ty fault))) takes made written e =
    let none = never_read means m fault takes.0.0 takes.0.1.is_wrong in
    (put_differs ignoring (command_of m) made (commands_of left) written (ap (λ (found : Option Request). is_recorded ignoring found made) none), no_request (command_of m) (commands_of left) none)
matches_first means index ignoring expected m left (Err (Decoding unread.OutOfMemory)) takes made written e = absurd (takes.1 refl)
matches_first means index ignoring expected m left (Err (Decoding _)) takes made written e = absurd takes.0
matches_first means index ignoring expected m left (Err (Unavailable error)) takes made written e = absurd takes
matches_first means index ignoring expected m left (Err OutOfMemory) takes made written e = tt

pub matches : {M : Type 0} {t : RecordType} {of : ℕ → List Field → M} {parts : M → List Part} {erased : Bool → M → M} {request_of : M → Option Request}
    → MeansRequests t of parts erased request_of → (index : ℤ) (ignoring : Bool) (expected : M) (old new : List RawMessage) (answer : Result M (ReplayError M))
    → TakesAs t of erased index ignoring expected (next_of old) answer → new ≡ drop 1 old
    → (made : Request) (written : List Request) → request_of expected ≡ Some made → Matches ignoring made written old answer new
matches means index ignoring expected [] new (Err (Unavailable error)) takes rest made written e = refl
matches means index ignoring expected [] new (Err (Decoding error)) takes rest made written e = absurd takes
matches means index ignoring expected [] new (Err (Mismatch error)) takes rest made written e = absurd takes
matches means index ignoring expected [] new (Err OutOfMemory) takes rest made written e = absurd takes
matches means index ignoring expected [] new (Ok recorded) takes rest made written e = absurd takes
matches means index ignoring expected (m ∷ left) new answer takes rest made written e =
    subst (λ (l : List RawMessage). Matches ignoring made written (m ∷ left) answer l) (sym rest) (matches_first means index ignoring expected m left answer takes made written e)
