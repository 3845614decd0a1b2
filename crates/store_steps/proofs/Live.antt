-- An attempt is live in an open invocation alone.
use Rattle.std.proofs.Common.{◌≡◌, refl, sym, ap, subst, ◌∙◌, true≢false, ℕ, Bool, true, false, not, ◌&&◌, if◌then◌else◌, List, [], ◌∷◌, filter, filter_map, Option, Some, None, is_some, option_map, unwrap_or, bytes_eq}
use Rattle.std.specs.List.{list_any, cons_option}
use Rattle.std.proofs.lemmas.Slice.Eq.{bytes_eq-Decides}
use Rattle.journal_model.specs.Notification.{Text}
use Rattle.journal_model.specs.declared.invocation.NewInvocation.{NewInvocation}
use Rattle.journal_model.specs.Event.{Frame, Event}
use Rattle.journal_model.specs.Journal.{is_of, invocation_begun, closes, ends_attempt, frame_of, frames_of, is_open}
use Rattle.journal_model.specs.Attempt.{attempts_begun, ends_live, live_attempt, is_live}
use Rattle.journal_model.specs.Cause.{IsAccepted}
use Rattle.journal_laws.proofs.ObjectState.{begin_when_new, open_when_accepted}
use Rattle.store_model.proofs.Same.{opened}
use Rattle.store_steps.specs.LiveAreOpen.{LiveAreOpen}

-- ---- one more frame

-- a frame that does not end its attempt closes nothing
opened-going : (o : Option NewInvocation) (frame : Frame) (frames : List Frame) → ends_attempt frame ≡ false → opened o (frame ∷ frames) ≡ opened o frames
opened-going o (Frame.Suspend suspension) frames e = cc
opened-going o (Frame.Error code message behavior delay) frames e = cc
opened-going o Frame.End frames e = cc
opened-going o _ frames e = refl

-- an event without a frame changes nothing of it
opened-other : (o : Option NewInvocation) (b : Bool) (event : Event) (events : List Event) → frame_of event ≡ None
    → opened o (filter_map frame_of (if b then event ∷ events else events)) ≡ opened o (filter_map frame_of events)
opened-other o true event events e = ap (λ (frame : Option Frame). opened o (cons_option frame (filter_map frame_of events))) e
opened-other o false event events e = refl

-- ---- one more event

-- an attempt that is live after an event that begins none was live before it
live_before : (b : Bool) (before : Option ℕ) (n : ℕ) → (if b then None else before) ≡ Some n → before ≡ Some n
live_before true before n e = cc
live_before false before n e = e

pub begun_open : (events : List Event) (id : Text) → is_open events id ≡ true → is_some (invocation_begun events id) ≡ true
begun_open events id e = left (is_some (invocation_begun events id)) (not (list_any (closes (unwrap_or (option_map (λ (new : NewInvocation). new.version) (invocation_begun events id)) 0)) (frames_of events id))) e
  where
    left : (a b : Bool) → (a && b) ≡ true → a ≡ true
    left true b e = refl
    left false b e = cc

pub open_of : (events : List Event) → IsAccepted events → (id : Text) (n : ℕ) → live_attempt events id ≡ Some n → is_open events id ≡ true
open_of [] accepted id n e = cc
open_of (Event.Invoke new ∷ earlier) accepted id n e =
    by_test (bytes_eq new.id id) refl (open_of earlier accepted.1 id n (live_before (bytes_eq new.id id && false) (live_attempt earlier id) n e))
  where
    by_test : (b : Bool) → bytes_eq new.id id ≡ b → is_open earlier id ≡ true
        → opened (if b then Some new else invocation_begun earlier id) (filter_map frame_of (if b then Event.Invoke new ∷ filter (is_of id) earlier else filter (is_of id) earlier)) ≡ true
    by_test true same before =
        let unknown : is_some (invocation_begun earlier id) ≡ false =
        subst (λ (x : Text). is_some (invocation_begun earlier x) ≡ false) ((bytes_eq-Decides new.id id).0 same) (begin_when_new earlier new accepted.0) in
        absurd (true≢false (sym (begun_open earlier id before) ∙ unknown))
    by_test false same before = before
open_of (Event.Begin other now ∷ earlier) accepted id n e =
    opened-other (invocation_begun earlier id) (bytes_eq other id) (Event.Begin other now) (filter (is_of id) earlier) refl
    ∙ by_test (bytes_eq other id) refl e (open_of earlier accepted.1 id n)
  where
    by_test : (b : Bool) → bytes_eq other id ≡ b
        → (if b then Some (attempts_begun (Event.Begin other now ∷ earlier) id) else (if b && false then None else live_attempt earlier id)) ≡ Some n
        → (live_attempt earlier id ≡ Some n → is_open earlier id ≡ true) → is_open earlier id ≡ true
    by_test true same e later = open_when_accepted earlier (Event.Begin other now) id refl same accepted.0
    by_test false same e later = later e
open_of (Event.Move other attempt frame ∷ earlier) accepted id n e =
    by_test (bytes_eq other id) (ends_attempt frame) refl e (open_of earlier accepted.1 id n)
  where
    by_test : (b ends : Bool) → ends_attempt frame ≡ ends → (if b && ends then None else live_attempt earlier id) ≡ Some n
        → (live_attempt earlier id ≡ Some n → is_open earlier id ≡ true)
        → opened (invocation_begun earlier id) (filter_map frame_of (if b then Event.Move other attempt frame ∷ filter (is_of id) earlier else filter (is_of id) earlier)) ≡ true
    by_test true true is e later = cc
    by_test true false is e later = opened-going (invocation_begun earlier id) frame (frames_of earlier id) is ∙ later e
    by_test false ends is e later = later e
open_of (event ∷ earlier) accepted id n e =
    opened-other (invocation_begun earlier id) (is_of id event) event (filter (is_of id) earlier) refl
    ∙ open_of earlier accepted.1 id n (live_before (is_of id event && ends_live event) (live_attempt earlier id) n e)

pub live_open : LiveAreOpen
live_open events id number accepted live = by_found (live_attempt events id) refl live
  where
    by_found : (o : Option ℕ) → live_attempt events id ≡ o → is_live events id number ≡ true → is_open events id ≡ true
    by_found None is e = let no = rw is at e in cc
    by_found (Some n) is e = open_of events accepted id n is
