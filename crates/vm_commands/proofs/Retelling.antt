-- What is taken as the read that a call makes is the request that is matched.
use Rattle.std.proofs.Common.{◌≡◌, ◌≢◌, ◌↔◌, ℕ, ℤ, Bool, true, false, List, [], ◌∷◌, drop, Option, Some, None, Result, Ok, Err, refl, ap, sym, subst, ◌∙◌, true≢false}
use Rattle.protocol_table.specs.declared.table.RecordType.{RecordType}
use Rattle.protocol_wire.specs.Wire.{Field}
use Rattle.protocol_wire.specs.Parts.{Part}
use Rattle.journal_model.specs.Request.{Request}
use Rattle.attempt_model.specs.Requests.{Commands, put_one}
use Rattle.protocol_stream.specs.declared.decoder.RawMessage.{RawMessage}
use Rattle.protocol_stream.specs.declared.decoder.DecodingError.{DecodingError}
use Rattle.protocol_stream.specs.declared.decoder.DecodingError.TheVariants as unread
use Rattle.protocol_messages.specs.Decodings.{DecodesTo, HasItsType, IsOtherType}
use Rattle.protocol_stream.specs.Header.{message_type}
use Rattle.protocol_types.specs.declared.message_type.MessageType.{MessageType}
use Rattle.protocol_equality.specs.Laws.{AreHeaderEqual}
use Rattle.protocol_errors.specs.declared.mismatch.CommandTypeMismatchError.{CommandTypeMismatchError}
use Rattle.std.proofs.lemmas.Option.{none-some}
use Rattle.vm_commands.specs.declared.replay_error.ReplayError.{ReplayError}
use Rattle.vm_commands.specs.declared.replay_error.ReplayError.TheVariants.{Unavailable, Decoding, Mismatch, OutOfMemory}
use Rattle.vm_commands.specs.declared.state_read.StateRead.{StateRead}
use Rattle.vm_commands.specs.declared.state_read.StateRead.TheVariants as reads
use Rattle.vm_commands.specs.declared.state_read.StateReadError.{StateReadError}
use Rattle.vm_commands.specs.declared.state_read.StateReadError.TheVariants as errors
use Rattle.vm_commands.specs.HeaderEquality.{header_equal, is_recorded}
use Rattle.vm_commands.specs.RecordedCommands.{command_of, commands_of, as_recorded}
use Rattle.vm_commands.specs.RecordMeanings.{MeansRequests}
use Rattle.vm_commands.specs.NextCommand.{next_of, unread_as, IsNextUnread}
use Rattle.vm_commands.specs.StateReads.{tells_type, IsNoRead, ReadsAs, MatchesRead, IsRetold}
use Rattle.vm_commands.proofs.Recording.{keeps_types}
use Rattle.vm_commands.proofs.NextCommand.{not_true, put_matches, put_differs, read_as, never_read, no_request, matches_first}

-- ---- what is taken

-- a message that was not read because it is of another type is not of this one
pub not_its_type : {R : Type 0} (t : RecordType) (of : ℕ → List Field → R) (index : ℤ) (m : RawMessage) (error : DecodingError)
    → tells_type error ≡ true → DecodesTo t of index m (Err error) → HasItsType t m → ⊥
not_its_type t of index m (unread.UnexpectedMessageType expected actual told) tells decodes its =
    let same : message_type m.header ≡ expected = cc in
    decodes.other (decodes.is_there ∙ same)
not_its_type t of index m _ tells decodes its = absurd (true≢false (sym tells))

-- a message of its type that cannot be read is told
pub tells_eager : {L E K : Type 0} (eager lazy : RecordType) (of_eager : ℕ → List Field → E) (of_lazy : ℕ → List Field → L) (erased : Bool → E → E) (erased_lazy : Bool → L → L) (known : E → Option K) (bare : E → E)
    (asked : L → E) (index : ℤ) (ignoring : Bool) (expected : L) (m : RawMessage) (error : DecodingError) → tells_type error ≡ false → DecodesTo eager of_eager index m (Err error)
    → ReadsAs eager lazy of_eager of_lazy erased erased_lazy known bare asked index ignoring expected (Some m) (Err (errors.Eager (unread_as error)))
tells_eager eager lazy of_eager of_lazy erased erased_lazy known bare asked index ignoring expected m (unread.UnexpectedMessageType wanted actual told) tells decodes = absurd (true≢false tells)
tells_eager eager lazy of_eager of_lazy erased erased_lazy known bare asked index ignoring expected m (unread.DecodeMessage ty fault) tells decodes = (decodes.0, (decodes, λ e. cc))
tells_eager eager lazy of_eager of_lazy erased erased_lazy known bare asked index ignoring expected m unread.OutOfMemory tells decodes = tt
tells_eager eager lazy of_eager of_lazy erased erased_lazy known bare asked index ignoring expected m _ tells decodes = absurd decodes

-- the same of the message that was taken, at the place that is told
pub tells_other : {L E K : Type 0} (eager lazy : RecordType) (of_eager : ℕ → List Field → E) (of_lazy : ℕ → List Field → L) (erased : Bool → E → E) (erased_lazy : Bool → L → L) (known : E → Option K) (bare : E → E)
    (asked : L → E) (index : ℤ) (ignoring : Bool) (expected : L) (m : RawMessage) (next : Option RawMessage) (error : DecodingError) (read : Result E DecodingError) (told : ℤ) (tells : Bool) (answer : Result (StateRead K) (StateReadError L E))
    → next ≡ Some m → read ≡ Err error → told ≡ index → DecodesTo eager of_eager told m read → tells ≡ tells_type error → tells ≡ true
    → ((HasItsType eager m → ⊥) → ReadsAs eager lazy of_eager of_lazy erased erased_lazy known bare asked told ignoring expected (Some m) answer)
    → ReadsAs eager lazy of_eager of_lazy erased erased_lazy known bare asked index ignoring expected next answer
tells_other eager lazy of_eager of_lazy erased erased_lazy known bare asked index ignoring expected m next error read told tells answer is failed at decodes tested so reads =
    let never : HasItsType eager m → ⊥ = not_its_type eager of_eager told m error (sym tested ∙ so) (subst (DecodesTo eager of_eager told m) failed decodes) in
    subst (λ (o : Option RawMessage). ReadsAs eager lazy of_eager of_lazy erased erased_lazy known bare asked index ignoring expected o answer) (sym is)
    (subst (λ (z : ℤ). ReadsAs eager lazy of_eager of_lazy erased erased_lazy known bare asked z ignoring expected (Some m) answer) at (reads never))

pub tells_unread_read : {L E K : Type 0} (eager lazy : RecordType) (of_eager : ℕ → List Field → E) (of_lazy : ℕ → List Field → L) (erased : Bool → E → E) (erased_lazy : Bool → L → L) (known : E → Option K) (bare : E → E)
    (asked : L → E) (index : ℤ) (ignoring : Bool) (expected : L) (m : RawMessage) (next : Option RawMessage) (error : DecodingError) (read : Result E DecodingError) (told : ℤ) (tells : Bool) (answer : ReplayError E)
    → next ≡ Some m → read ≡ Err error → told ≡ index → DecodesTo eager of_eager told m read → tells ≡ tells_type error → tells ≡ false → answer ≡ unread_as error
    → ReadsAs eager lazy of_eager of_lazy erased erased_lazy known bare asked index ignoring expected next (Err (errors.Eager answer))
tells_unread_read {L} {E} {K} eager lazy of_eager of_lazy erased erased_lazy known bare asked index ignoring expected m next error read told tells answer is failed at decodes tested so told_as =
    let decodes_here : DecodesTo eager of_eager index m (Err error) = subst (λ (z : ℤ). DecodesTo eager of_eager z m (Err error)) at (subst (DecodesTo eager of_eager told m) failed decodes) in
    let here : ReadsAs eager lazy of_eager of_lazy erased erased_lazy known bare asked index ignoring expected (Some m) (Err (errors.Eager (unread_as error))) = tells_eager eager lazy of_eager of_lazy erased erased_lazy known bare asked index ignoring expected m error (sym tested ∙ so) decodes_here in
    let answered_so : ReadsAs eager lazy of_eager of_lazy erased erased_lazy known bare asked index ignoring expected (Some m) (Err (errors.Eager answer)) =
    subst (λ (r : ReplayError E). ReadsAs eager lazy of_eager of_lazy erased erased_lazy known bare asked index ignoring expected (Some m) (Err (errors.Eager r))) (sym told_as) here in
    subst (λ (o : Option RawMessage). ReadsAs eager lazy of_eager of_lazy erased erased_lazy known bare asked index ignoring expected o (Err (errors.Eager answer))) (sym is) answered_so

-- ---- what it says of requests

-- a message that is no read of a known answer leaves the call's read as it is
stays_so : {L E K : Type 0} {eager lazy : RecordType} {of_eager : ℕ → List Field → E} {of_lazy : ℕ → List Field → L} {parts : E → List Part} {lazy_parts : L → List Part} {erased : Bool → E → E} {erased_lazy : Bool → L → L}
    {known : E → Option K} {bare : E → E} {asked : L → E} {retold : E → L → E} {request_of : E → Option Request} {lazy_request_of : L → Option Request}
    → MeansRequests eager of_eager parts erased request_of → MeansRequests lazy of_lazy lazy_parts erased_lazy lazy_request_of
    → IsRetold eager lazy known bare asked retold erased request_of lazy_request_of → (expected : L) (made : Request) (m : RawMessage) (left : List RawMessage) → (HasItsType eager m → ⊥) → lazy_request_of expected ≡ Some made
    → (found : Option Request) → command_of m ≡ found → as_recorded (found ∷ commands_of left) made ≡ made
stays_so means lazy_means retells expected made m left never asks None is = refl
stays_so {eager = eager} means lazy_means retells expected made m left never asks (Some recorded) is =
    retells.stays expected recorded made (commands_of left) asks (λ h. never (h ∙ ap (λ (t : MessageType). Some t) (keeps_types m recorded is)))

-- so what taking it as the call's read says is said of the call's read as it is recorded
put_as : {L E K : Type 0} {eager lazy : RecordType} {of_eager : ℕ → List Field → E} {of_lazy : ℕ → List Field → L} {parts : E → List Part} {lazy_parts : L → List Part} {erased : Bool → E → E} {erased_lazy : Bool → L → L}
    {known : E → Option K} {bare : E → E} {asked : L → E} {retold : E → L → E} {request_of : E → Option Request} {lazy_request_of : L → Option Request}
    → MeansRequests eager of_eager parts erased request_of → MeansRequests lazy of_lazy lazy_parts erased_lazy lazy_request_of
    → IsRetold eager lazy known bare asked retold erased request_of lazy_request_of → (ignoring : Bool) (expected : L) (made : Request) (written : List Request) (m : RawMessage) (left : List RawMessage) → (HasItsType eager m → ⊥) → lazy_request_of expected ≡ Some made
    → put_one (header_equal ignoring) (as_recorded (command_of m ∷ commands_of left) made) (command_of m ∷ commands_of left) written
    ≡ put_one (header_equal ignoring) made (command_of m ∷ commands_of left) written
put_as means lazy_means retells ignoring expected made written m left never asks =
    ap (λ (r : Request). put_one (header_equal ignoring) r (command_of m ∷ commands_of left) written) (stays_so means lazy_means retells expected made m left never asks (command_of m) refl)

-- a message of the other type is not of this one
never_both : {L E K : Type 0} {eager lazy : RecordType} {of_eager : ℕ → List Field → E} {of_lazy : ℕ → List Field → L} {parts : E → List Part} {lazy_parts : L → List Part} {erased : Bool → E → E} {erased_lazy : Bool → L → L}
    {known : E → Option K} {bare : E → E} {asked : L → E} {retold : E → L → E} {request_of : E → Option Request} {lazy_request_of : L → Option Request}
    → MeansRequests eager of_eager parts erased request_of → MeansRequests lazy of_lazy lazy_parts erased_lazy lazy_request_of
    → IsRetold eager lazy known bare asked retold erased request_of lazy_request_of → (m : RawMessage) → HasItsType lazy m → HasItsType eager m → ⊥
never_both means lazy_means retells m its h = retells.apart (h ∙ sym its)

-- whether the message is matched with the call's read as it is recorded
abbrev matched_so : Bool → RawMessage → List RawMessage → Request → Bool
matched_so ignoring m left made = is_recorded ignoring (command_of m) (as_recorded (command_of m ∷ commands_of left) made)

-- a recorded read whose answer was known is matched exactly where it asks what the call asks
eager_compared : {L E K : Type 0} {eager lazy : RecordType} {of_eager : ℕ → List Field → E} {of_lazy : ℕ → List Field → L} {parts : E → List Part} {lazy_parts : L → List Part} {erased : Bool → E → E} {erased_lazy : Bool → L → L}
    {known : E → Option K} {bare : E → E} {asked : L → E} {retold : E → L → E} {request_of : E → Option Request} {lazy_request_of : L → Option Request}
    → MeansRequests eager of_eager parts erased request_of → MeansRequests lazy of_lazy lazy_parts erased_lazy lazy_request_of
    → IsRetold eager lazy known bare asked retold erased request_of lazy_request_of → (ignoring : Bool) (expected : L) (made : Request) (m : RawMessage) (left : List RawMessage) (recorded : E) → lazy_request_of expected ≡ Some made → command_of m ≡ request_of recorded
    → (found : Request) → request_of recorded ≡ Some found → AreHeaderEqual erased ignoring (bare recorded) (asked expected) ↔ (matched_so ignoring m left made ≡ true)
eager_compared {erased = erased} {retold = retold} {request_of = request_of} means lazy_means retells ignoring expected made m left recorded asks read found is =
    let there : command_of m ≡ Some found = read ∙ is in
    let put : Request = as_recorded (Some found ∷ commands_of left) made in
    let compared : AreHeaderEqual erased ignoring recorded (retold recorded expected) ↔ (is_recorded ignoring (request_of recorded) put ≡ true) =
    means.compared ignoring recorded (retold recorded expected) put (retells.requested recorded expected found made (commands_of left) is asks) in
    let taken = retells.taken_over ignoring recorded expected in
    let same : matched_so ignoring m left made ≡ is_recorded ignoring (request_of recorded) put =
    (λ i. is_recorded ignoring (there i) (as_recorded (there i ∷ commands_of left) made)) ∙ ap (λ (f : Option Request). is_recorded ignoring f put) (sym is) in
    (λ h. same ∙ compared.0 (taken.0 h), λ h. taken.1 (compared.1 (sym same ∙ h)))

-- what is no request is not matched
none_differs : (ignoring : Bool) (made : Request) (m : RawMessage) (left : List RawMessage) → command_of m ≡ None → matched_so ignoring m left made ≡ false
none_differs ignoring made m left none = ap (λ (f : Option Request). is_recorded ignoring f (as_recorded (command_of m ∷ commands_of left) made)) none

eager_matches : {L E K : Type 0} {eager lazy : RecordType} {of_eager : ℕ → List Field → E} {of_lazy : ℕ → List Field → L} {parts : E → List Part} {lazy_parts : L → List Part} {erased : Bool → E → E} {erased_lazy : Bool → L → L}
    {known : E → Option K} {bare : E → E} {asked : L → E} {retold : E → L → E} {request_of : E → Option Request} {lazy_request_of : L → Option Request}
    → MeansRequests eager of_eager parts erased request_of → MeansRequests lazy of_lazy lazy_parts erased_lazy lazy_request_of
    → IsRetold eager lazy known bare asked retold erased request_of lazy_request_of → (ignoring : Bool) (expected : L) (made : Request) (m : RawMessage) (left : List RawMessage) (recorded : E) (value : K) → lazy_request_of expected ≡ Some made
    → command_of m ≡ request_of recorded → known recorded ≡ Some value → AreHeaderEqual erased ignoring (bare recorded) (asked expected)
    → (found : Option Request) → request_of recorded ≡ found → matched_so ignoring m left made ≡ true
eager_matches means lazy_means retells ignoring expected made m left recorded value asks read knows h None is =
    absurd (none-some value (sym ((retells.unknown recorded).1 is) ∙ knows))
eager_matches means lazy_means retells ignoring expected made m left recorded value asks read knows h (Some found) is =
    (eager_compared means lazy_means retells ignoring expected made m left recorded asks read found is).0 h

eager_differs : {L E K : Type 0} {eager lazy : RecordType} {of_eager : ℕ → List Field → E} {of_lazy : ℕ → List Field → L} {parts : E → List Part} {lazy_parts : L → List Part} {erased : Bool → E → E} {erased_lazy : Bool → L → L}
    {known : E → Option K} {bare : E → E} {asked : L → E} {retold : E → L → E} {request_of : E → Option Request} {lazy_request_of : L → Option Request}
    → MeansRequests eager of_eager parts erased request_of → MeansRequests lazy of_lazy lazy_parts erased_lazy lazy_request_of
    → IsRetold eager lazy known bare asked retold erased request_of lazy_request_of → (ignoring : Bool) (expected : L) (made : Request) (m : RawMessage) (left : List RawMessage) (recorded : E) → lazy_request_of expected ≡ Some made
    → command_of m ≡ request_of recorded → (AreHeaderEqual erased ignoring (bare recorded) (asked expected) → ⊥)
    → (found : Option Request) → request_of recorded ≡ found → matched_so ignoring m left made ≡ false
eager_differs means lazy_means retells ignoring expected made m left recorded asks read differs None is = none_differs ignoring made m left (read ∙ is)
eager_differs means lazy_means retells ignoring expected made m left recorded asks read differs (Some found) is =
    not_true _ (λ h. differs ((eager_compared means lazy_means retells ignoring expected made m left recorded asks read found is).1 h))

-- a message of its type that could not be read is no request
eager_unread : {L E K : Type 0} {eager lazy : RecordType} {of_eager : ℕ → List Field → E} {of_lazy : ℕ → List Field → L} {parts : E → List Part} {lazy_parts : L → List Part} {erased : Bool → E → E} {erased_lazy : Bool → L → L}
    {known : E → Option K} {bare : E → E} {asked : L → E} {retold : E → L → E} {request_of : E → Option Request} {lazy_request_of : L → Option Request}
    → MeansRequests eager of_eager parts erased request_of → MeansRequests lazy of_lazy lazy_parts erased_lazy lazy_request_of
    → IsRetold eager lazy known bare asked retold erased request_of lazy_request_of → (index : ℤ) (m : RawMessage) (error : DecodingError) → HasItsType eager m → DecodesTo eager of_eager index m (Err error) → (error ≢ unread.OutOfMemory) → command_of m ≡ None
eager_unread {eager = eager} {of_eager = of_eager} means lazy_means retells index m (unread.UnexpectedMessageType wanted actual told) its decodes kept = absurd (not_its_type eager of_eager index m (unread.UnexpectedMessageType wanted actual told) refl decodes its)
eager_unread means lazy_means retells index m (unread.DecodeMessage ty fault) its decodes kept = never_read means m fault its decodes.1.is_wrong
eager_unread means lazy_means retells index m unread.OutOfMemory its decodes kept = absurd (kept refl)
eager_unread means lazy_means retells index m _ its decodes kept = absurd decodes

-- what is wrong with it is told
eager_told : {R : Type 0} (t : RecordType) (of : ℕ → List Field → R) (index : ℤ) (m : RawMessage) (error : DecodingError) (found : Option Request) (left : Commands) → found ≡ None
    → DecodesTo t of index m (Err error) → (error ≢ unread.OutOfMemory) → IsNextUnread error (found ∷ left)
eager_told t of index m (unread.UnexpectedMessageType wanted actual told) found left none decodes kept = tt
eager_told t of index m (unread.DecodeMessage ty fault) found left none decodes kept = no_request found left none
eager_told t of index m unread.OutOfMemory found left none decodes kept = absurd (kept refl)
eager_told t of index m _ found left none decodes kept = absurd decodes

-- what is neither is another message than the call's read
no_read : {eager lazy : RecordType} {index : ℤ} (m : RawMessage) (error : CommandTypeMismatchError) → IsNoRead eager lazy index m error → IsOtherType lazy m index error.expected error.actual error.command_index
no_read m error none = record {
  is_expected = none.is_expected;
  is_there = none.is_there;
  other = λ h. none.not_lazy (none.is_expected ∙ ap (λ (t : MessageType). Some t) (sym h ∙ none.is_there));
  at = none.at;
}

matches_first_read : {L E K : Type 0} {eager lazy : RecordType} {of_eager : ℕ → List Field → E} {of_lazy : ℕ → List Field → L} {parts : E → List Part} {lazy_parts : L → List Part} {erased : Bool → E → E} {erased_lazy : Bool → L → L}
    {known : E → Option K} {bare : E → E} {asked : L → E} {retold : E → L → E} {request_of : E → Option Request} {lazy_request_of : L → Option Request}
    → MeansRequests eager of_eager parts erased request_of → MeansRequests lazy of_lazy lazy_parts erased_lazy lazy_request_of
    → IsRetold eager lazy known bare asked retold erased request_of lazy_request_of → (index : ℤ) (ignoring : Bool) (expected : L) (m : RawMessage) (left : List RawMessage) (answer : Result (StateRead K) (StateReadError L E))
    → ReadsAs eager lazy of_eager of_lazy erased erased_lazy known bare asked index ignoring expected (Some m) answer
    → (made : Request) (written : List Request) → lazy_request_of expected ≡ Some made → MatchesRead ignoring made written (m ∷ left) answer left
matches_first_read means lazy_means retells index ignoring expected m left (Ok reads.Lazy) takes made written asks =
    put_as means lazy_means retells ignoring expected made written m left (never_both means lazy_means retells m takes.is_taken.0.0) asks
    ∙ matches_first lazy_means index ignoring expected m left (Ok takes.recorded) takes.is_taken made written asks
matches_first_read means lazy_means retells index ignoring expected m left (Ok (reads.Eager found)) takes made written asks =
    put_matches ignoring (command_of m) (as_recorded (command_of m ∷ commands_of left) made) (commands_of left) written
    (eager_matches means lazy_means retells ignoring expected made m left takes.recorded found asks (read_as means m takes.recorded takes.is_read.0 takes.is_read.1) takes.is_known takes.is_asked _ refl)
matches_first_read means lazy_means retells index ignoring expected m left (Err errors.Empty) takes made written asks =
    let none = read_as means m takes.recorded takes.is_read.0 takes.is_read.1 ∙ (retells.unknown takes.recorded).0 takes.is_known in (
      put_differs ignoring (command_of m) (as_recorded (command_of m ∷ commands_of left) made) (commands_of left) written (none_differs ignoring made m left none),
      no_request (command_of m) (commands_of left) none,
    )
matches_first_read means lazy_means retells index ignoring expected m left (Err (errors.OtherType error)) takes made written asks = (
  put_as means lazy_means retells ignoring expected made written m left takes.not_eager asks
      ∙ (matches_first lazy_means index ignoring expected m left (Err (Decoding (unread.UnexpectedMessageType error.expected error.actual error.command_index))) (no_read m error takes, λ e. cc) made written asks).0,
  tt,
)
matches_first_read means lazy_means retells index ignoring expected m left (Err (errors.Eager (Mismatch error))) takes made written asks = (
  put_differs ignoring (command_of m) (as_recorded (command_of m ∷ commands_of left) made) (commands_of left) written
      (eager_differs means lazy_means retells ignoring expected made m left takes.recorded asks (read_as means m takes.recorded takes.is_read.0 takes.is_read.1) takes.differs _ refl),
  tt,
)
matches_first_read {eager = eager} {of_eager = of_eager} means lazy_means retells index ignoring expected m left (Err (errors.Eager (Decoding error))) takes made written asks =
    let none = eager_unread means lazy_means retells index m error takes.0 takes.1.0 takes.1.1 in (
      put_differs ignoring (command_of m) (as_recorded (command_of m ∷ commands_of left) made) (commands_of left) written (none_differs ignoring made m left none),
      eager_told eager of_eager index m error (command_of m) (commands_of left) none takes.1.0 takes.1.1,
    )
matches_first_read means lazy_means retells index ignoring expected m left (Err (errors.Eager (Unavailable error))) takes made written asks = absurd takes
matches_first_read means lazy_means retells index ignoring expected m left (Err (errors.Eager OutOfMemory)) takes made written asks = tt
matches_first_read means lazy_means retells index ignoring expected m left (Err (errors.Lazy (Decoding error))) takes made written asks =
    let matched = matches_first lazy_means index ignoring expected m left (Err (Decoding error)) takes.1 made written asks in
    (put_as means lazy_means retells ignoring expected made written m left (never_both means lazy_means retells m takes.0) asks ∙ matched.0, matched.1)
matches_first_read means lazy_means retells index ignoring expected m left (Err (errors.Lazy (Mismatch error))) takes made written asks = (
  put_as means lazy_means retells ignoring expected made written m left (never_both means lazy_means retells m takes.0.0) asks
      ∙ matches_first lazy_means index ignoring expected m left (Err (Mismatch error)) takes made written asks,
  tt,
)
matches_first_read means lazy_means retells index ignoring expected m left (Err (errors.Lazy (Unavailable error))) takes made written asks = absurd takes
matches_first_read means lazy_means retells index ignoring expected m left (Err (errors.Lazy OutOfMemory)) takes made written asks = tt

pub matches_read : {L E K : Type 0} {eager lazy : RecordType} {of_eager : ℕ → List Field → E} {of_lazy : ℕ → List Field → L} {parts : E → List Part} {lazy_parts : L → List Part} {erased : Bool → E → E} {erased_lazy : Bool → L → L}
    {known : E → Option K} {bare : E → E} {asked : L → E} {retold : E → L → E} {request_of : E → Option Request} {lazy_request_of : L → Option Request}
    → MeansRequests eager of_eager parts erased request_of → MeansRequests lazy of_lazy lazy_parts erased_lazy lazy_request_of
    → IsRetold eager lazy known bare asked retold erased request_of lazy_request_of → (index : ℤ) (ignoring : Bool) (expected : L) (old new : List RawMessage) (answer : Result (StateRead K) (StateReadError L E))
    → ReadsAs eager lazy of_eager of_lazy erased erased_lazy known bare asked index ignoring expected (next_of old) answer → new ≡ drop 1 old
    → (made : Request) (written : List Request) → lazy_request_of expected ≡ Some made → MatchesRead ignoring made written old answer new
matches_read means lazy_means retells index ignoring expected [] new (Err (errors.Lazy (Unavailable error))) takes rest made written asks = refl
matches_read means lazy_means retells index ignoring expected [] new _ takes rest made written asks = absurd takes
matches_read means lazy_means retells index ignoring expected (m ∷ left) new answer takes rest made written asks =
    subst (λ (l : List RawMessage). MatchesRead ignoring made written (m ∷ left) answer l) (sym rest) (matches_first_read means lazy_means retells index ignoring expected m left answer takes made written asks)

-- the message that is taken is the first of the queue, at the place that is told
pub first_read : {L E K : Type 0} (eager lazy : RecordType) (of_eager : ℕ → List Field → E) (of_lazy : ℕ → List Field → L) (erased : Bool → E → E) (erased_lazy : Bool → L → L) (known : E → Option K) (bare : E → E)
    (asked : L → E) (index : ℤ) (ignoring : Bool) (expected : L) (old : List RawMessage) (next : Option RawMessage) (told : ℤ) (answer : Result (StateRead K) (StateReadError L E)) → next ≡ next_of old → told ≡ index
    → ReadsAs eager lazy of_eager of_lazy erased erased_lazy known bare asked told ignoring expected next answer → ReadsAs eager lazy of_eager of_lazy erased erased_lazy known bare asked index ignoring expected (next_of old) answer
first_read eager lazy of_eager of_lazy erased erased_lazy known bare asked index ignoring expected old next told answer first at takes =
    subst (λ (o : Option RawMessage). ReadsAs eager lazy of_eager of_lazy erased erased_lazy known bare asked index ignoring expected o answer) first
    (subst (λ (z : ℤ). ReadsAs eager lazy of_eager of_lazy erased erased_lazy known bare asked z ignoring expected next answer) at takes)
