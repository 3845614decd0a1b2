-- No error closes an invocation in its run: so it is closed by its end alone. And what was told of an attempt is told of its frames on their way.
use Rattle.std.proofs.Common.{◌≡◌, ◌⊎◌, inl, inr, ℕ, Bool, true, false, true≢false, if◌then◌else◌, List, [], ◌∷◌, ◌++◌, filter, filter_map, map, Option, Some, None, IfSome, option_and_then, bytes_eq, refl, sym, ap, subst, ◌∙◌}
use Rattle.std.specs.List.{AllByRecursion, find}
use Rattle.std.proofs.lemmas.Slice.Eq.{bytes_eq-Decides}
use Rattle.journal_model.specs.declared.value.NonEmptyValue.{NonEmptyValue}
use Rattle.journal_model.specs.Notification.{Text}
use Rattle.journal_model.specs.Request.{Request}
use Rattle.journal_model.specs.Event.{Event, Frame, Retry, Pause, Fail}
use Rattle.journal_model.specs.Journal.{answer_at_close, ByEnd, ByFailure, Closing, closes, closing_frame, closing_of, frame_of, frames_of, invocation_begun, invoked_by, is_of, recorded_requests, version_of}
use Rattle.journal_model.specs.Cause.{causes_of, IsAccepted}
use Rattle.journal_laws.proofs.ObjectState.{begun_before, open_when_accepted}
use Rattle.input_laws.proofs.Events.{unborn_open}
use Rattle.protocol_errors.specs.declared.error.Error.{Error}
use Rattle.protocol_types.specs.Version.{version_number}
use Rattle.protocol_types.specs.declared.version.Version.{Version}
use Rattle.vm_attempt_laws.specs.AttemptInvariants.{error_told, IsNoError, IsNoFailure, TellsBy, TellsErrorOf}
use Rattle.vm_attempt_laws.specs.Attempts.{Turn}
use Rattle.vm_attempt_laws.specs.OutputOfAttempt.{frame_meant, Sent}
use Rattle.vm_attempt_laws.specs.Bodies.{Among, outcomes_in}
use Rattle.vm_attempt_laws.specs.TurnReports.{FailsEarly, IsEarly, IsFrameTold, TellsErrorAt, Told}
use Rattle.schedule_laws.specs.InvocationInRun.{FailsNot}
use Rattle.schedule_laws.specs.Laws.{HoldsClosed, IsClosedByEnd}
use Rattle.schedule_laws.proofs.Fits.{apart}

-- ---- what was told

-- a frame that says what was told is no failure
pub told_unfailed : (told : Told) (frame : Frame) → IsFrameTold told frame → IsNoFailure frame
told_unfailed told (Frame.Error code message behavior delay) is = is.0
told_unfailed told frame is = tt

-- More was told: outcomes that were proposed were proposed still, the turn by which the attempt is over is the first one that told so, and its
-- input stays closed.
pub record IsFurther (a b : Told) : Type 0 where
  pub version : a.version ≡ b.version
  pub proposed : (x : ℕ × NonEmptyValue) → Among x a.proposed → Among x b.proposed
  pub over : (a.over ≡ None) ⊎ (a.over ≡ b.over)
  pub closed : a.is_closed ≡ true → b.is_closed ≡ true

pub same_further : (told : Told) → IsFurther told told
same_further told = record { version = refl; proposed = λ x among. among; over = inr refl; closed = λ e. e }

module _ (a b : Told) (further : IsFurther a b) where
  one_further : (frame : Frame) → IsFrameTold a frame → IsFrameTold b frame
  one_further (Frame.RunOutcome n value is_acknowledged) is = further.proposed (n, value) is
  one_further (Frame.Error code message behavior delay) is = (is.0, error_further is.1)
    where
      frame : Frame
      frame = Frame.Error code message behavior delay

      at_further : (a.over ≡ None) ⊎ (a.over ≡ b.over) → TellsErrorAt a.version a.over frame → TellsErrorAt b.version b.over frame
      at_further (inl none) tells = absurd (subst (λ (o : Option Turn). TellsErrorAt a.version o frame) none tells)
      at_further (inr same) tells =
          subst (λ (version : ℕ). TellsErrorAt version b.over frame) further.version (subst (λ (o : Option Turn). TellsErrorAt a.version o frame) same tells)

      error_further : TellsErrorAt a.version a.over frame ⊎ IsEarly a frame → TellsErrorAt b.version b.over frame ⊎ IsEarly b frame
      error_further (inl tells) = inl (at_further further.over tells)
      error_further (inr early) = inr (
        further.closed early.0,
        (early.1.0, early.1.1, early.1.2 ∙ ap (λ (version : ℕ). error_told version early.1.0) further.version),
      )
  one_further frame is = tt

  pub frames_further : (frames : List Frame) → AllByRecursion (IsFrameTold a) frames → AllByRecursion (IsFrameTold b) frames
  frames_further [] all = tt
  frames_further (frame ∷ frames) all = (one_further frame all.0, frames_further frames all.1)

-- frames that propose nothing, and tell no error, say no more than was told
pub frames_calm : (told : Told) (frames : List Frame) → outcomes_in frames ≡ [] → AllByRecursion IsNoError frames → AllByRecursion (IsFrameTold told) frames
frames_calm told [] none all = tt
frames_calm told (Frame.RunOutcome n value is_acknowledged ∷ frames) none all = cc
frames_calm told (Frame.Error code message behavior delay ∷ frames) none all = absurd all.0
frames_calm told (frame ∷ frames) none all = (tt, frames_calm told frames none all.1)

-- nor do those that tell the error by which a turn has failed
pub frames_failed : (told : Told) (version : ℕ) (error : Error) → told.version ≡ version → told.over ≡ Some (Turn.Failed error) → (frames : List Frame) → outcomes_in frames ≡ [] → AllByRecursion IsNoFailure frames
    → AllByRecursion (TellsErrorOf version error) frames → AllByRecursion (IsFrameTold told) frames
frames_failed told version error speaks over [] none all tells = tt
frames_failed told version error speaks over (Frame.RunOutcome n value is_acknowledged ∷ frames) none all tells = cc
frames_failed told version error speaks over (Frame.Error code message behavior delay ∷ frames) none all tells = (
  (
    all.0,
    inl (subst (λ (v : ℕ). TellsErrorAt v told.over (Frame.Error code message behavior delay)) (sym speaks)
        (subst (λ (o : Option Turn). TellsErrorAt version o (Frame.Error code message behavior delay)) (sym over) tells.0)),
  ),
  frames_failed told version error speaks over frames none all.1 tells.1,
)
frames_failed told version error speaks over (frame ∷ frames) none all tells = (tt, frames_failed told version error speaks over frames none all.1 tells.1)

-- and those of an attempt whose input was closed too early
pub frames_early : (told : Told) (version : Version) (error : Error) (sent : List Sent) → told.is_closed ≡ true → told.version ≡ version_number version → FailsEarly error → TellsBy error sent
    → AllByRecursion IsNoFailure (map (frame_meant version) sent) → AllByRecursion (IsFrameTold told) (map (frame_meant version) sent)
frames_early told version error sent closed speaks fails (inr none) all =
    subst (λ (some : List Sent). AllByRecursion (IsFrameTold told) (map (frame_meant version) some)) (sym none.1) tt
frames_early told version error sent closed speaks fails (inl one) all =
    subst (λ (some : List Sent). AllByRecursion (IsFrameTold told) (map (frame_meant version) some)) (sym one)
    (((subst (λ (some : List Sent). AllByRecursion IsNoFailure (map (frame_meant version) some)) one all).0, inr (closed, (error, fails, ap (λ (v : ℕ). error_told v error) (sym speaks)))), tt)

pub among_first : {A : Type 0} (x : A) (xs ys : List A) → Among x xs → Among x (xs ++ ys)
among_first x [] ys never = absurd never
among_first x (y ∷ xs) ys (inl same) = inl same
among_first x (y ∷ xs) ys (inr later) = inr (among_first x xs ys later)

pub among_last : {A : Type 0} (x : A) (xs : List A) → Among x (xs ++ x ∷ [])
among_last x [] = inl refl
among_last x (y ∷ xs) = inr (among_last x xs)

-- ---- accepted events

pub other_unfailed : (id : Text) (event : Event) → is_of id event ≡ false → FailsNot id event
other_unfailed id (Event.Move other attempt frame) e = λ same. absurd (apart other id e same)
other_unfailed id event e = tt

-- an invocation that was not begun has no events
unborn_one : (id : Text) (event : Event) (events : List Event) → invoked_by event ≡ None → causes_of events event ≡ [] → invocation_begun events id ≡ None → FailsNot id event
unborn_one id event events old causes unborn = by_id (is_of id event) refl
  where
    by_id : (b : Bool) → is_of id event ≡ b → FailsNot id event
    by_id true e = absurd (true≢false (sym (open_when_accepted events event id old e causes) ∙ unborn_open events id unborn))
    by_id false e = other_unfailed id event e

pub unborn_unfailed : (id : Text) (events : List Event) → IsAccepted events → invocation_begun events id ≡ None → AllByRecursion (FailsNot id) events
unborn_unfailed id [] accepted unborn = tt
unborn_unfailed id (Event.Invoke new ∷ earlier) accepted unborn = by_id (bytes_eq new.id id) refl unborn (unborn_unfailed id earlier accepted.1)
  where
    by_id : (b : Bool) → bytes_eq new.id id ≡ b → (if b then Some new else invocation_begun earlier id) ≡ None → (invocation_begun earlier id ≡ None → AllByRecursion (FailsNot id) earlier)
        → AllByRecursion (FailsNot id) (Event.Invoke new ∷ earlier)
    by_id true e is later = cc
    by_id false e is later = (tt, later is)
unborn_unfailed id (event ∷ earlier) accepted unborn =
    let before : invocation_begun earlier id ≡ None = sym (begun_before event earlier id refl) ∙ unborn in
    (unborn_one id event earlier refl accepted.0 before, unborn_unfailed id earlier accepted.1 before)

-- ---- an invocation is closed by its end

frames_unfailed : (events : List Event) (id : Text) → AllByRecursion (FailsNot id) events → AllByRecursion IsNoFailure (frames_of events id)
frames_unfailed [] id all = tt
frames_unfailed (event ∷ earlier) id all = by_id (is_of id event) refl (frames_unfailed earlier id all.1)
  where
    one : (some : Event) → FailsNot id some → is_of id some ≡ true → AllByRecursion IsNoFailure (filter_map frame_of (filter (is_of id) earlier))
        → AllByRecursion IsNoFailure (filter_map frame_of (some ∷ filter (is_of id) earlier))
    one (Event.Move other attempt frame) not_failed own later = (not_failed ((bytes_eq-Decides other id).0 own), later)
    one some not_failed own later = later

    by_id : (b : Bool) → is_of id event ≡ b → AllByRecursion IsNoFailure (frames_of earlier id) → AllByRecursion IsNoFailure (frames_of (event ∷ earlier) id)
    by_id true e later = rw e (one event all.0 e later)
    by_id false e later = rw e later

-- of such frames the one that closes is the end
closing_is : (version : ℕ) (frame : Frame) → closes version frame ≡ true → IsNoFailure frame → IfSome (closing_frame frame) (λ closing. closing ≡ ByEnd)
closing_is version Frame.End closing not_failed = refl
closing_is version (Frame.Error code message Fail delay) closing not_failed = absurd not_failed
closing_is version (Frame.Error code message Retry delay) closing not_failed = tt
closing_is version (Frame.Error code message Pause delay) closing not_failed = tt
closing_is version frame closing not_failed = tt

found_end : (version : ℕ) (frames : List Frame) → AllByRecursion IsNoFailure frames → IfSome (option_and_then closing_frame (find (closes version) frames)) (λ closing. closing ≡ ByEnd)
found_end version [] all = tt
found_end version (frame ∷ frames) all = by_first (closes version frame) refl (found_end version frames all.1)
  where
    by_first : (b : Bool) → closes version frame ≡ b → IfSome (option_and_then closing_frame (find (closes version) frames)) (λ closing. closing ≡ ByEnd)
        → IfSome (option_and_then closing_frame (find (closes version) (frame ∷ frames))) (λ closing. closing ≡ ByEnd)
    by_first true e later = rw e (closing_is version frame e all.0)
    by_first false e later = rw e later

answered_at : (requests : List Request) (closing : Option Closing) → IfSome closing (λ one. one ≡ ByEnd) → IfSome (answer_at_close requests closing) (λ answer. closing ≡ Some ByEnd)
answered_at requests None is = tt
answered_at requests (Some ByEnd) is = of_any (answer_at_close requests (Some ByEnd))
  where
    of_any : (o : Option NonEmptyValue) → IfSome o (λ answer. Some ByEnd ≡ Some ByEnd)
    of_any None = tt
    of_any (Some value) = refl
answered_at requests (Some (ByFailure code message)) is = let clash : ByFailure code message ≡ ByEnd = is in absurd cc

pub closed_by_end : (events : List Event) (id : Text) → AllByRecursion (FailsNot id) events → IsClosedByEnd events id
closed_by_end events id all =
    let closed = found_end (version_of events id) (frames_of events id) (frames_unfailed events id all) in
    record { closed = closed; answered = answered_at (recorded_requests events id) (closing_of events id) closed }

pub holds_closed : HoldsClosed
holds_closed next options id events new is holds = closed_by_end events id (holds new is).unfailed
