-- A recorded request that asks something of another invocation can be read again, for it came in a message.
use Rattle.std.proofs.Common.{arith, ◌≡◌, refl, sym, ap, subst, ◌∙◌, ◌⊎◌, inl, inr, ℕ, zero, suc, ◌<◌, ◌^◌, Bool, true, false, ◌||◌, if◌then◌else◌, List, [], ◌∷◌, ◌++◌, map, length, Option, Some, None}
use Rattle.std.specs.List.{AllByRecursion, list_any}
use Rattle.std.proofs.lemmas.Bool.{leb-false}
use Rattle.journal_model.specs.Notification.{Text, Arrival}
use Rattle.journal_model.specs.State.{StateMap, state_after}
use Rattle.journal_model.specs.declared.cause.Cause.{Cause}
use Rattle.journal_model.specs.declared.value.NonEmptyValue.{NonEmptyValue}
use Rattle.journal_model.specs.Request.{Request}
use Rattle.journal_model.specs.Spelling.{request_payload, request_type}
use Rattle.journal_model.specs.Event.{Frame, Event}
use Rattle.journal_model.specs.Journal.{Entry, Recorded, Arrived, adds_to, entries_added, entries_from, entries_of, entries_of_event, read_answer, requests_in, slept, starting_state, version_of}
use Rattle.journal_model.specs.Cause.{adding_tests, causes_of, entry_payload, frame_tests, is_too_long, IsAccepted, live_tests, open_tests, places_used_up, Tests, those_that_hold}
use Rattle.protocol_table.specs.declared.table.RecordType.{RecordType}
use Rattle.protocol_table.specs.declared.table.RecordType.TheVariants as records
use Rattle.protocol_types.specs.declared.message_type.MessageType.{MessageType}
use Rattle.protocol_types.specs.declared.message_type.MessageType.TheVariants as types
use Rattle.protocol_types.specs.declared.feature.Feature.TheVariants as features
use Rattle.protocol_types.specs.Feature.{lacks_feature}
use Rattle.protocol_wire.specs.declared.record.TheConstants.{LEVELS}
use Rattle.protocol_wire.specs.declared.check.Fault.{Fault}
use Rattle.protocol_wire.specs.declared.check.Fault.TheVariants.{BadPayload, TooDeep}
use Rattle.protocol_wire.specs.Check.{payload_fault}
use Rattle.protocol_wire.specs.Fields.{fields}
use Rattle.protocol_records.specs.declared.future.Future.{Future}
use Rattle.protocol_records.specs.AwaitingOn.{awaiting_on_of}
use Rattle.protocol_records.specs.Suspension.{suspension_of}
use Rattle.protocol_records.specs.SuspensionV6.{suspension_v6_of}
use Rattle.protocol_controls.specs.Error.{error_of}
use Rattle.protocol_controls.specs.ProposeRunCompletion.{propose_run_completion_of}
use Rattle.protocol_calls.specs.SendSignalCommand.{send_signal_command_of}
use Rattle.protocol_calls.specs.CompleteAwakeableCommand.{complete_awakeable_command_of}
use Rattle.protocol_stream.specs.Header.{message_type}
use Rattle.protocol_laws.specs.Fits.{complete_awakeable_command_fits, send_signal_command_fits}
use Rattle.store_frames.specs.declared.kind.FrameKind.{FrameKind}
use Rattle.store_frames.specs.declared.kind.FrameKind.TheVariants as kinds
use Rattle.store_frames.specs.Kind.{frame_kind, record_of}
use Rattle.store_frames.specs.Commands.{request_in}
use Rattle.store_frames.specs.Requests.{awaited_tree, proposal_told, suspension_of_lists, suspension_of_tree}
use Rattle.store_frames.specs.FrameMeanings.{asks_ack, command_or_broken, error_frame, frame_by, outcome_or_broken, read_if_record, suspension_frame, unless_faulty, unless_numbered}
use Rattle.store_frames.specs.ReadFrames.{AreRead, IsFrameRead, IsReadIn}
use Rattle.store_frames.proofs.Numbered.{numbered_or_not}
use Rattle.store_frames.proofs.Types.{request_typed}
use Rattle.delivery_laws.specs.Message.{entry_at, entry_behind}
use Rattle.store_deliveries.specs.RecordedMessages.{CanBeRead, CompletionRead, IsReadable, SignalRead}

-- ---- a frame that is a command came in a message of one

module _ (request : Request) where
  abbrev IsIt : Frame → Type 0
  IsIt frame = frame ≡ Frame.Command request

  no_fault : (o : Option Fault) (frame : Frame) → IsIt (unless_faulty o frame) → (o ≡ None) × IsIt frame
  no_fault None frame e = (refl, e)
  no_fault (Some BadPayload) frame e = cc
  no_fault (Some TooDeep) frame e = cc

  never : (t : RecordType) (payload : List ℕ) (frame : Frame) → (IsIt frame → ⊥) → IsIt (unless_faulty (payload_fault LEVELS t payload) frame) → ⊥
  never t payload frame other e = other (no_fault (payload_fault LEVELS t payload) frame e).1

  no_number : (lacks : Bool) (o : Option Future) (frame : Frame) → (IsIt frame → ⊥) → IsIt (unless_numbered lacks o frame) → ⊥
  no_number lacks o frame other e = by_cases (numbered_or_not lacks o frame)
    where
      by_cases : (unless_numbered lacks o frame ≡ frame) ⊎ (unless_numbered lacks o frame ≡ Frame.Broken) → ⊥
      by_cases (inl is) = other (sym is ∙ e)
      by_cases (inr is) = let broken : IsIt Frame.Broken = sym is ∙ e in cc

  no_suspension : (b lacks : Bool) (payload : List ℕ) → IsIt (suspension_frame b lacks payload) → ⊥
  no_suspension true lacks payload e = never records.SuspensionV6 payload (Frame.Suspend (Some (suspension_of_lists (suspension_v6_of LEVELS (fields payload))))) (λ is. cc) e
  no_suspension false lacks payload e =
      let one = suspension_of LEVELS (fields payload) in
      let frame = Frame.Suspend (suspension_of_tree one) in
      never records.Suspension payload (unless_numbered lacks one.awaiting_on frame) (no_number lacks one.awaiting_on frame (λ is. cc)) e

  no_record : (o : Option RecordType) (payload : List ℕ) → IsIt (read_if_record o (λ fs. Frame.NotAccepted) payload) → ⊥
  no_record None payload e = cc
  no_record (Some t) payload e = never t payload Frame.NotAccepted (λ is. cc) e

  no_outcome : (asks : Bool) (o : Option (ℕ × NonEmptyValue)) → IsIt (outcome_or_broken asks o) → ⊥
  no_outcome asks None e = cc
  no_outcome asks (Some outcome) e = cc

  is_one : (found : Option Request) → IsIt (command_or_broken found) → found ≡ Some request
  is_one None e = cc
  is_one (Some other) e = let same : other ≡ request = cc in ap Some same

  record IsCommandIn (ty : MessageType) (payload : List ℕ) : Type 0 where
    pub kind : RecordType
    pub is : record_of ty ≡ Some kind
    pub sound : payload_fault LEVELS kind payload ≡ None
    pub found : request_in ty (fields payload) ≡ Some request

  command_in : (ty : MessageType) (payload : List ℕ) (o : Option RecordType) → record_of ty ≡ o → IsIt (read_if_record o (λ fs. command_or_broken (request_in ty fs)) payload) → IsCommandIn ty payload
  command_in ty payload None f e = cc
  command_in ty payload (Some t) f e =
      let it = no_fault (payload_fault LEVELS t payload) (command_or_broken (request_in ty (fields payload))) e in
      record { kind = t; is = f; sound = it.0; found = is_one (request_in ty (fields payload)) it.1 }

  in_kind : (version : ℕ) (kind : FrameKind) (ty : MessageType) (asks : Bool) (payload : List ℕ) → IsIt (frame_by version kind ty asks payload) → IsCommandIn ty payload
  in_kind version kinds.Command ty asks payload e = command_in ty payload (record_of ty) refl e
  in_kind version kinds.AwaitingOn ty asks payload e =
      let one = awaiting_on_of LEVELS (fields payload) in
      let lacks = lacks_feature version features.AtLeast in
      let frame = Frame.AwaitingOn (awaited_tree one) in
      absurd (never records.AwaitingOn payload (unless_numbered lacks one.awaiting_on frame) (no_number lacks one.awaiting_on frame (λ is. cc)) e)
  in_kind version kinds.Suspension ty asks payload e = absurd (no_suspension (lacks_feature version features.AwaitTree) (lacks_feature version features.AtLeast) payload e)
  in_kind version kinds.Error ty asks payload e = absurd (never records.Error payload (error_frame version (error_of LEVELS (fields payload))) (λ is. cc) e)
  in_kind version kinds.End ty asks payload e = absurd (never records.End payload Frame.End (λ is. cc) e)
  in_kind version kinds.RunOutcome ty asks payload e =
      let outcome = proposal_told (propose_run_completion_of LEVELS (fields payload)) in
      absurd (never records.ProposeRunCompletion payload (outcome_or_broken asks outcome) (no_outcome asks outcome) e)
  in_kind version kinds.Other ty asks payload e = absurd (no_record (record_of ty) payload e)

  typed_so : (ty : MessageType) (payload : List ℕ) → IsCommandIn ty payload → request_type request ≡ ty
  typed_so ty payload it = request_typed ty (fields payload) request it.found

  signal_in : (payload : List ℕ) → IsCommandIn types.SendSignalCommand payload → SignalRead request
  signal_in payload it =
      let same : it.kind ≡ records.SendSignalCommand = cc (it.is) in
      record {
        one = send_signal_command_of LEVELS (fields payload);
        fits = send_signal_command_fits LEVELS payload (subst (λ (t : RecordType). payload_fault LEVELS t payload ≡ None) same it.sound);
        is = it.found;
      }

  completion_in : (payload : List ℕ) → IsCommandIn types.CompleteAwakeableCommand payload → CompletionRead request
  completion_in payload it =
      let same : it.kind ≡ records.CompleteAwakeableCommand = cc (it.is) in
      record {
        one = complete_awakeable_command_of LEVELS (fields payload);
        fits = complete_awakeable_command_fits LEVELS payload (subst (λ (t : RecordType). payload_fault LEVELS t payload ≡ None) same it.sound);
        is = it.found;
      }

  signal_read : request_type request ≡ types.SendSignalCommand → (version : ℕ) → IsFrameRead version (Frame.Command request) → SignalRead request
  signal_read is version (m, e) =
      let ty = message_type m.header in
      let it = in_kind version (frame_kind ty) ty (asks_ack m.header) m.payload (sym e) in
      signal_in m.payload (subst (λ (t : MessageType). IsCommandIn t m.payload) (sym (typed_so ty m.payload it) ∙ is) it)

  completion_read : request_type request ≡ types.CompleteAwakeableCommand → (version : ℕ) → IsFrameRead version (Frame.Command request) → CompletionRead request
  completion_read is version (m, e) =
      let ty = message_type m.header in
      let it = in_kind version (frame_kind ty) ty (asks_ack m.header) m.payload (sym e) in
      completion_in m.payload (subst (λ (t : MessageType). IsCommandIn t m.payload) (sym (typed_so ty m.payload it) ∙ is) it)

can_be_read : (version : ℕ) (request : Request) → IsFrameRead version (Frame.Command request) → CanBeRead request
can_be_read version (Request.SendSignal target key value name) read = signal_read (Request.SendSignal target key value name) refl version read
can_be_read version (Request.CompleteAwakeable id value name) read = completion_read (Request.CompleteAwakeable id value name) refl version read
can_be_read version _ read = tt

-- ---- its payload is short

later_none : (first later : Tests) → those_that_hold (first ++ later) ≡ [] → those_that_hold later ≡ []
later_none [] later e = e
later_none (test ∷ first) later e = by_test test.0 e (later_none first later)
  where
    by_test : (b : Bool) → ((if b then test.1 ∷ [] else []) ++ those_that_hold (first ++ later)) ≡ [] → (those_that_hold (first ++ later) ≡ [] → those_that_hold later ≡ [])
        → those_that_hold later ≡ []
    by_test true f rest = cc
    by_test false f rest = rest f

second_none : (a : Bool) (one : Cause) (b : Bool) (other : Cause) → those_that_hold ((a, one) ∷ (b, other) ∷ []) ≡ [] → b ≡ false
second_none true one b other e = cc
second_none false one true other e = cc
second_none false one false other e = refl

first_false : (a b : Bool) → (a || b) ≡ false → a ≡ false
first_false true b e = cc
first_false false b e = refl

short_if : (earlier : List Event) (id : Text) (attempt : ℕ) (request : Request) → causes_of earlier (Event.Move id attempt (Frame.Command request)) ≡ [] → length (request_payload request) < 2 ^ 64
short_if earlier id attempt request e =
    let event = Event.Move id attempt (Frame.Command request) in
    let entries = entries_of earlier id in
    let start = starting_state earlier id in
    let more = map Arrived (read_answer (state_after (requests_in entries) start) request) in
    let own = later_none (open_tests earlier id) (live_tests earlier id attempt ++ (frame_tests earlier id (Frame.Command request) ++ adding_tests earlier id event)) e in
    let added = later_none (live_tests earlier id attempt) (frame_tests earlier id (Frame.Command request) ++ adding_tests earlier id event) own in
    let adding = later_none (frame_tests earlier id (Frame.Command request)) (adding_tests earlier id event) added in
    let none = second_none (places_used_up entries (Recorded request ∷ more)) Cause.NumbersUsedUp (list_any (λ (entry : Entry). is_too_long (entry_payload entry)) (Recorded request ∷ more)) Cause.PayloadTooLong adding in
    let long = first_false (is_too_long (request_payload request)) (list_any (λ (entry : Entry). is_too_long (entry_payload entry)) more) none in
    let less = leb-false (2 ^ 32) (length (request_payload request)) long in
    omega (arith, less)

-- ---- so all that are recorded can be

abbrev CanEntry : Entry → Type 0
CanEntry (Recorded request) = IsReadable request
CanEntry (Arrived arrival) = Unit {0}

both_can : (xs ys : List Entry) → AllByRecursion CanEntry xs → AllByRecursion CanEntry ys → AllByRecursion CanEntry (xs ++ ys)
both_can [] ys first later = later
both_can (x ∷ xs) ys first later = (first.0, both_can xs ys first.1 later)

arrivals_can : (arrivals : List Arrival) → AllByRecursion CanEntry (map Arrived arrivals)
arrivals_can [] = tt
arrivals_can (arrival ∷ arrivals) = (tt, arrivals_can arrivals)

event_can : (earlier : List Event) (start : StateMap) (entries : List Entry) (event : Event) → causes_of earlier event ≡ [] → IsReadIn earlier event → AllByRecursion CanEntry (entries_of_event start entries event)
event_can earlier start entries (Event.Result id n result) e read = (tt, tt)
event_can earlier start entries (Event.Signal id key result) e read = (tt, tt)
event_can earlier start entries (Event.Cancel id) e read = (tt, tt)
event_can earlier start entries (Event.Tick now) e read = arrivals_can (slept entries now)
event_can earlier start entries (Event.Move id attempt (Frame.Command request)) e read =
    (record { read = can_be_read (version_of earlier id) request read; short = short_if earlier id attempt request e }, arrivals_can (read_answer (state_after (requests_in entries) start) request))
event_can earlier start entries (Event.Move id attempt (Frame.RunOutcome n value is_acknowledged)) e read = (tt, tt)
event_can earlier start entries (Event.Move id attempt _) e read = tt
event_can earlier start entries _ e read = tt

entries_can : (start : StateMap) (events : List Event) (id : Text) → IsAccepted events → AreRead events → AllByRecursion CanEntry (entries_from start events id)
entries_can start [] id accepted read = tt
entries_can start (event ∷ earlier) id accepted read =
    both_can (entries_from start earlier id) (entries_added start earlier id event (entries_from start earlier id)) (entries_can start earlier id accepted.1 read.1) (by_test (adds_to earlier id event))
  where
    by_test : (b : Bool) → AllByRecursion CanEntry (if b then entries_of_event start (entries_from start earlier id) event else [])
    by_test true = event_can earlier start (entries_from start earlier id) event accepted.0 read.0
    by_test false = tt

one_can : (entries : List Entry) (n : ℕ) (request : Request) → AllByRecursion CanEntry entries → entry_behind entries n ≡ Some (Recorded request) → IsReadable request
one_can [] n request all e = cc
one_can (Recorded other ∷ entries) zero request all e = let same : other ≡ request = cc in subst IsReadable same all.0
one_can (Arrived arrival ∷ entries) zero request all e = cc
one_can (entry ∷ entries) (suc n) request all e = one_can entries n request all.1 e

pub recorded_readable : (events : List Event) (sender : Text) (place : ℕ) (request : Request) → IsAccepted events → AreRead events
    → entry_at (entries_of events sender) place ≡ Some (Recorded request) → IsReadable request
recorded_readable events sender zero request accepted read e = cc
recorded_readable events sender (suc n) request accepted read e = one_can (entries_of events sender) n request (entries_can (starting_state events sender) events sender accepted read) e
