-- What is kept agrees with the events step by step.
use Rattle.std.proofs.Common.{ℕ, ◌≡◌, refl, sym, ap, ap₂, subst, ◌∙◌, inl, Bool, true, false, ◌&&◌, ◌||◌, not, if◌then◌else◌, List, [], ◌∷◌, length, take, Option, Some, None, option_map, bytes_eq}
use Rattle.journal_model.specs.Notification.{Text}
use Rattle.journal_model.specs.declared.value.NonEmptyValue.{NonEmptyValue}
use Rattle.journal_model.specs.Event.{Frame, Event}
use Rattle.journal_model.specs.Journal.{is_of, is_tick, begins, invocation_begun, version_of, ends_attempt}
use Rattle.journal_model.specs.Attempt.{begins_attempt, ends_live, live_attempt, closes_input, acknowledged, bytes_asked}
use Rattle.journal_model.specs.Cause.{IsAccepted}
use Rattle.journal_laws.proofs.ObjectState.{begun_before}
use Rattle.input_laws.proofs.Events.{itself}
use Rattle.due_laws.proofs.Opened.{and_false}
use Rattle.protocol_types.specs.Feature.{has_feature}
use Rattle.protocol_types.specs.declared.feature.Feature.TheVariants.{Acknowledgement}
use Rattle.store_model.proofs.Same.{same_begun}
use Rattle.store_live.specs.declared.attempt.LiveAttempt.{LiveAttempt}
use Rattle.store_live.specs.ChangedRoom.{IsAsBefore}
use Rattle.store_live.specs.Input.{InputKept, input_handed_out, with_outcome_kept}
use Rattle.store_live_laws.specs.Memory.{IsInputOf}
use Rattle.store_live_laws.proofs.Reading.{input_agrees}
use Rattle.store_live_laws.specs.LiveAttempts.{Agrees, AgreesAtFirst, AgreesElsewhere, AgreesRecorded, AgreesAcknowledged, AgreesAsBefore, AgreesRead, AgreesHandedOut, AgreesClosed, AgreesEnded, AgreesStopped, IsKeptLive, does_record}
use Rattle.store_live_laws.proofs.Growing.{live_now, goes_on}

pub at_first : AgreesAtFirst
at_first id = refl

-- ---- events that leave it

stays : (events : List Event) (event : Event) (id : Text) → IsAccepted (event ∷ events) → begins id event ≡ false → begins_attempt id event ≡ false → bytes_asked id event ≡ None
    → acknowledged (version_of events id) id event ≡ None → invocation_begun (event ∷ events) id ≡ invocation_begun events id
    → (is_of id event && ends_live event) ≡ false → (is_of id event && closes_input event) ≡ false
    → (attempt : Option LiveAttempt) → Agrees events id attempt → Agrees (event ∷ events) id attempt
stays events event id accepted old going asks plain same ends closes None e = live_now events event id going ends ∙ e
stays events event id accepted old going asks plain same ends closes (Some attempt) kept =
    goes_on events event id going attempt attempt.input attempt.is_input_closed same ends (ap (λ (b : Bool). b || attempt.is_input_closed) (sym closes)) kept
    (input_agrees.stays events event id attempt.input accepted old going asks plain kept.input)

-- of another invocation
foreign_begins : (event : Event) (id : Text) → is_of id event ≡ false → begins id event ≡ false
foreign_begins (Event.Invoke new) id e = e
foreign_begins _ id e = refl

foreign_attempt : (event : Event) (id : Text) → is_of id event ≡ false → begins_attempt id event ≡ false
foreign_attempt (Event.Begin other now) id e = e
foreign_attempt _ id e = refl

foreign_asks : (event : Event) (id : Text) → is_of id event ≡ false → bytes_asked id event ≡ None
foreign_asks (Event.Feed other attempt most) id e = rw e refl
foreign_asks _ id e = refl

foreign_plain : (version : ℕ) (event : Event) (id : Text) → is_of id event ≡ false → acknowledged version id event ≡ None
foreign_plain version (Event.Move other attempt (Frame.RunOutcome n value true)) id e = by_test (has_feature version Acknowledgement)
  where
    by_test : (b : Bool) → (if b && bytes_eq other id then Some n else None) ≡ None
    by_test true = rw e refl
    by_test false = refl
foreign_plain version _ id e = refl

pub elsewhere : AgreesElsewhere
elsewhere events event id attempt accepted other still agrees =
    stays events event id accepted (foreign_begins event id other) (foreign_attempt event id other) (foreign_asks event id other) (foreign_plain (version_of events id) event id other)
    (same_begun events event id (inl other)) (ap (λ (b : Bool). b && ends_live event) other) (ap (λ (b : Bool). b && closes_input event) other) attempt agrees

-- what is recorded
off : (b : Bool) → not b ≡ true → b ≡ false
off true e = cc
off false e = refl

pub recorded : AgreesRecorded
recorded events (Event.Result one n result) id attempt accepted does plain agrees =
    stays events (Event.Result one n result) id accepted refl refl refl plain (begun_before (Event.Result one n result) events id refl) (and_false (bytes_eq one id)) (and_false (bytes_eq one id)) attempt agrees
recorded events (Event.Signal one key result) id attempt accepted does plain agrees =
    stays events (Event.Signal one key result) id accepted refl refl refl plain (begun_before (Event.Signal one key result) events id refl) (and_false (bytes_eq one id)) (and_false (bytes_eq one id)) attempt agrees
recorded events (Event.Cancel one) id attempt accepted does plain agrees =
    stays events (Event.Cancel one) id accepted refl refl refl plain (begun_before (Event.Cancel one) events id refl) (and_false (bytes_eq one id)) (and_false (bytes_eq one id)) attempt agrees
recorded events (Event.Tick now) id attempt accepted does plain agrees =
    stays events (Event.Tick now) id accepted refl refl refl plain (begun_before (Event.Tick now) events id refl) refl refl attempt agrees
recorded events (Event.Move one number frame) id attempt accepted does plain agrees =
    stays events (Event.Move one number frame) id accepted refl refl refl plain (begun_before (Event.Move one number frame) events id refl)
    (ap (λ (b : Bool). bytes_eq one id && b) (off (ends_attempt frame) does) ∙ and_false (bytes_eq one id)) (and_false (bytes_eq one id)) attempt agrees
recorded events _ id attempt accepted does plain agrees = cc

-- the outcome of a run that is to be acknowledged
pub is_acknowledged : AgreesAcknowledged
is_acknowledged events id number n value None accepted late e =
    live_now events (Event.Move id number (Frame.RunOutcome n value true)) id refl (and_false (bytes_eq id id)) ∙ e
is_acknowledged events id number n value (Some attempt) accepted late kept =
    let event = Event.Move id number (Frame.RunOutcome n value true) in
    let told : acknowledged (version_of events id) id event ≡ Some n = ap₂ (λ (a b : Bool). if a && b then Some n else None) late (itself id) in
    goes_on events event id refl attempt (with_outcome_kept n attempt.input) attempt.is_input_closed (begun_before event events id refl) (and_false (bytes_eq id id))
    (ap (λ (b : Bool). b || attempt.is_input_closed) (sym (and_false (bytes_eq id id)))) kept
    (input_agrees.notes events event id attempt.input n accepted refl refl refl told kept.input)

-- room is made for it
pub as_before : AgreesAsBefore
as_before events id None None before agrees = agrees
as_before events id None (Some new) before agrees = absurd before
as_before events id (Some old) None before agrees = absurd before
as_before events id (Some old) (Some new) before kept =
    subst (IsKeptLive events id) (sym before)
    (record { number = kept.number; version = kept.version; input = input_agrees.makes_room events id old.input new.input.room kept.input; closed = kept.closed })

-- ---- the input

pub is_read : AgreesRead
is_read events id row attempt accepted none e kept =
    record { number = kept.number; version = kept.version; input = input_agrees.reads events id attempt.input row accepted none e kept.input; closed = kept.closed }

pub handed_out : AgreesHandedOut
handed_out events id number most None accepted e = live_now events (Event.Feed id number 0) id refl (and_false (bytes_eq id id)) ∙ e
handed_out events id number most (Some attempt) accepted kept =
    let event = Event.Feed id number (length (take most attempt.input.rest)) in
    goes_on events event id refl attempt (input_handed_out most attempt.input) attempt.is_input_closed (begun_before event events id refl) (and_false (bytes_eq id id))
    (ap (λ (b : Bool). b || attempt.is_input_closed) (sym (and_false (bytes_eq id id)))) kept
    (input_agrees.hands events id number most attempt.input accepted kept.input)

pub closed : AgreesClosed
closed events id number None accepted e = live_now events (Event.Close id number) id refl (and_false (bytes_eq id id)) ∙ e
closed events id number (Some attempt) accepted kept =
    let event = Event.Close id number in
    goes_on events event id refl attempt attempt.input true (begun_before event events id refl) (and_false (bytes_eq id id))
    (sym (ap (λ (b : Bool). (b && true) || attempt.is_input_closed) (itself id))) kept
    (input_agrees.stays events event id attempt.input accepted refl refl refl refl kept.input)

-- ---- the attempt is over

pub ended : AgreesEnded
ended events id number frame ends = ap₂ (λ (a b : Bool). if a && b then None else live_attempt events id) (itself id) ends

pub stopped : AgreesStopped
stopped events id number = ap (λ (a : Bool). if a && true then None else live_attempt events id) (itself id)
