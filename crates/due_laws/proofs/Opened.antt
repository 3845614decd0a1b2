-- Whether an invocation is open behind an event, that the invocation of a live attempt is, and that one which is not known has none.
use Rattle.std.proofs.Common.{ℕ, ◌≡◌, refl, sym, ap, ◌∙◌, true≢false, Bool, true, false, ◌&&◌, ◌||◌, not, if◌then◌else◌, List, [], ◌∷◌, filter, filter_map, Option, Some, None, is_some, option_map, unwrap_or, bytes_eq}
use Rattle.std.specs.List.{list_any, cons_option}
use Rattle.std.proofs.lemmas.Slice.Eq.{bytes_eq-Decides}
use Rattle.journal_model.specs.Notification.{Text}
use Rattle.journal_model.specs.declared.invocation.NewInvocation.{NewInvocation}
use Rattle.journal_model.specs.Event.{Frame, Event}
use Rattle.journal_model.specs.Journal.{begins, is_of, invoked_by, invocation_begun, version_of, closes, ends_attempt, frame_of, frames_of, is_open}
use Rattle.journal_model.specs.Attempt.{begins_attempt, attempts_begun, ends_live, live_attempt}
use Rattle.journal_model.specs.Cause.{causes_of, IsAccepted}
use Rattle.journal_laws.proofs.ObjectState.{begin_when_new, begun_before, open_when_accepted}
use Rattle.input_laws.proofs.Events.{begun_same, frames_own, frames_other}

abbrev pub version_in : Option NewInvocation → ℕ
version_in o = unwrap_or (option_map (λ (new : NewInvocation). new.version) o) 0

abbrev pub opened : Option NewInvocation → List Frame → Bool
opened o frames = is_some o && not (list_any (closes (version_in o)) frames)

-- whether the frame of an event closes its invocation
abbrev pub closes_in : ℕ → Option Frame → Bool
closes_in version None = false
closes_in version (Some frame) = closes version frame

pub and_false : (a : Bool) → (a && false) ≡ false
and_false true = refl
and_false false = refl

pub open_own : (event : Event) (events : List Event) (id : Text) → begins id event ≡ false → is_of id event ≡ true → is_open events id ≡ true
    → is_open (event ∷ events) id ≡ not (closes_in (version_of events id) (frame_of event))
open_own event events id old own was =
    ap (λ (o : Option NewInvocation). opened o (frames_of (event ∷ events) id)) (begun_same event events id old)
    ∙ ap (λ (frames : List Frame). opened (invocation_begun events id) frames) (frames_own event events id own)
    ∙ by_frame (frame_of event)
  where
    bools : (a b c : Bool) → (a && not b) ≡ true → (a && not (c || b)) ≡ not c
    bools true b true e = refl
    bools true b false e = e
    bools false b c e = cc

    by_frame : (o : Option Frame) → opened (invocation_begun events id) (cons_option o (frames_of events id)) ≡ not (closes_in (version_of events id) o)
    by_frame None = was
    by_frame (Some frame) =
        bools (is_some (invocation_begun events id)) (list_any (closes (version_of events id)) (frames_of events id)) (closes (version_of events id) frame) was

pub open_other : (event : Event) (events : List Event) (id : Text) → begins id event ≡ false → is_of id event ≡ false → is_open (event ∷ events) id ≡ is_open events id
open_other event events id old other =
    ap (λ (o : Option NewInvocation). opened o (frames_of (event ∷ events) id)) (begun_same event events id old)
    ∙ ap (λ (frames : List Frame). opened (invocation_begun events id) frames) (frames_other event events id other)

-- ---- the invocation of a live attempt

-- a frame that does not end its attempt does not close the invocation
not_closing : (version : ℕ) (frame : Frame) → ends_attempt frame ≡ false → closes version frame ≡ false
not_closing version Frame.End e = cc
not_closing version (Frame.Error code message behavior delay) e = cc
not_closing version _ e = refl

opened_still : (o : Option NewInvocation) (event : Event) (frames : List Frame) → ends_live event ≡ false → opened o (cons_option (frame_of event) frames) ≡ opened o frames
opened_still o (Event.Move other attempt frame) frames e =
    ap (λ (b : Bool). is_some o && not (b || list_any (closes (version_in o)) frames)) (not_closing (version_in o) frame e)
opened_still o _ frames e = refl

still_open : (event : Event) (earlier : List Event) (id : Text) → invoked_by event ≡ None → (is_of id event && ends_live event) ≡ false
    → is_open (event ∷ earlier) id ≡ is_open earlier id
still_open event earlier id e ends =
    ap (λ (o : Option NewInvocation). opened o (frames_of (event ∷ earlier) id)) (begun_before event earlier id e)
    ∙ by_test (is_of id event) ends
  where
    by_test : (b : Bool) → (b && ends_live event) ≡ false
        → opened (invocation_begun earlier id) (filter_map frame_of (if b then event ∷ filter (is_of id) earlier else filter (is_of id) earlier))
        ≡ opened (invocation_begun earlier id) (frames_of earlier id)
    by_test true h = opened_still (invocation_begun earlier id) event (frames_of earlier id) h
    by_test false h = refl

begins_own : (event : Event) (id : Text) → begins_attempt id event ≡ true → is_of id event ≡ true
begins_own (Event.Begin other now) id e = e
begins_own _ id e = cc

begins_calm : (event : Event) (id : Text) → begins_attempt id event ≡ true → ends_live event ≡ false
begins_calm (Event.Begin other now) id e = refl
begins_calm _ id e = cc

unknown_closed : (o : Option NewInvocation) (frames : List Frame) → is_some o ≡ false → opened o frames ≡ true → ⊥
unknown_closed None frames e f = true≢false (sym f)
unknown_closed (Some new) frames e f = true≢false e

-- by one step, from the invocation as it was before
live_open_step : (event : Event) (earlier : List Event) (id : Text) (n : ℕ) → invoked_by event ≡ None → causes_of earlier event ≡ []
    → (live_attempt earlier id ≡ Some n → is_open earlier id ≡ true) → live_attempt (event ∷ earlier) id ≡ Some n → is_open (event ∷ earlier) id ≡ true
live_open_step event earlier id n e accepted before = by_tests (begins_attempt id event) refl (is_of id event && ends_live event) refl
  where
    by_tests : (b : Bool) → begins_attempt id event ≡ b → (c : Bool) → (is_of id event && ends_live event) ≡ c
        → (if b then Some (attempts_begun (event ∷ earlier) id) else (if c then None else live_attempt earlier id)) ≡ Some n → is_open (event ∷ earlier) id ≡ true
    by_tests true f c g h =
        let calm : (is_of id event && ends_live event) ≡ false = ap (λ (x : Bool). is_of id event && x) (begins_calm event id f) ∙ and_false (is_of id event) in
        still_open event earlier id e calm ∙ open_when_accepted earlier event id e (begins_own event id f) accepted
    by_tests false f true g h = cc
    by_tests false f false g h = still_open event earlier id e g ∙ before h

pub live_open : (events : List Event) (id : Text) (n : ℕ) → IsAccepted events → live_attempt events id ≡ Some n → is_open events id ≡ true
live_open [] id n accepted e = cc
live_open (Event.Invoke new ∷ earlier) id n accepted e =
    by_test (bytes_eq new.id id) refl
    (live_open earlier id n accepted.1 (sym (ap (λ (b : Bool). if b then None else live_attempt earlier id) (and_false (bytes_eq new.id id))) ∙ e))
  where
    by_test : (b : Bool) → bytes_eq new.id id ≡ b → is_open earlier id ≡ true → is_open (Event.Invoke new ∷ earlier) id ≡ true
    by_test true f before =
        let same : new.id ≡ id = (bytes_eq-Decides new.id id).0 f in
        let unknown : is_some (invocation_begun earlier id) ≡ false = ap (λ (x : Text). is_some (invocation_begun earlier x)) (sym same) ∙ begin_when_new earlier new accepted.0 in
        absurd (unknown_closed (invocation_begun earlier id) (frames_of earlier id) unknown before)
    by_test false f before =
        ap (λ (b : Bool). opened (if b then Some new else invocation_begun earlier id) (filter_map frame_of (if b then Event.Invoke new ∷ filter (is_of id) earlier else filter (is_of id) earlier))) f
        ∙ before
live_open (event ∷ earlier) id n accepted e = live_open_step event earlier id n refl accepted.0 (live_open earlier id n accepted.1) e

-- an invocation that is not known has no live attempt
pub unknown_dead : (events : List Event) (id : Text) → IsAccepted events → is_some (invocation_begun events id) ≡ false → live_attempt events id ≡ None
unknown_dead events id accepted unknown = by_live (live_attempt events id) refl
  where
    by_live : (o : Option ℕ) → live_attempt events id ≡ o → o ≡ None
    by_live None e = refl
    by_live (Some n) e = absurd (unknown_closed (invocation_begun events id) (frames_of events id) unknown (live_open events id n accepted e))
