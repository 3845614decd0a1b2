-- How an invocation was closed, by its last frame.
use Rattle.std.proofs.Common.{◌≡◌, refl, sym, ap, subst, ◌∙◌, ℕ, Bool, true, false, ◌&&◌, ◌||◌, not, if◌then◌else◌, List, [], ◌∷◌, filter, filter_map, Option, Some, None, is_some, option_and_then, bytes_eq}
use Rattle.std.specs.List.{list_any, find, cons_option}
use Rattle.std.proofs.lemmas.Slice.Eq.{bytes_eq-Decides}
use Rattle.journal_model.specs.Notification.{Text}
use Rattle.journal_model.specs.declared.invocation.NewInvocation.{NewInvocation}
use Rattle.journal_model.specs.Event.{Fail, Frame, Event}
use Rattle.journal_model.specs.Journal.{ByFailure, closes, closing_frame, closing_of, frame_of, frames_of, invocation_begun, invoked_by, is_of, is_open, version_of}
use Rattle.journal_model.specs.Cause.{causes_of, IsAccepted}
use Rattle.journal_laws.proofs.ObjectState.{begin_when_new, begun_before, open_when_accepted}
use Rattle.store_tables.specs.declared.row.LastError.{LastError}
use Rattle.store_model.specs.Progress.{error_in, first_item, last_error_of}
use Rattle.store_model.proofs.Same.{version_in}
use Rattle.store_invocations.proofs.Beginning.{no_frames_of}

-- no frame but the last one closes
abbrev IsClosedLast : ℕ → List Frame → Type 0
IsClosedLast version [] = Unit {0}
IsClosedLast version (frame ∷ frames) = list_any (closes version) frames ≡ false

none_of : {A : Type 0} (o : Option A) → is_some o ≡ false → o ≡ None
none_of None e = refl
none_of (Some x) e = cc

open_closes : (known closed : Bool) → (known && not closed) ≡ true → closed ≡ false
open_closes true true e = cc
open_closes true false e = refl
open_closes false closed e = cc

not_closed : (events : List Event) (id : Text) → is_open events id ≡ true → list_any (closes (version_of events id)) (frames_of events id) ≡ false
not_closed events id opened = open_closes (is_some (invocation_begun events id)) (list_any (closes (version_of events id)) (frames_of events id)) opened

closed_later : (event : Event) (earlier : List Event) (id : Text) → invoked_by event ≡ None → causes_of earlier event ≡ []
    → IsClosedLast (version_of earlier id) (frames_of earlier id) → IsClosedLast (version_of (event ∷ earlier) id) (frames_of (event ∷ earlier) id)
closed_later event earlier id plain accepted before =
    subst (λ (o : Option NewInvocation). IsClosedLast (version_in o) (frames_of (event ∷ earlier) id)) (sym (begun_before event earlier id plain)) (by_test (is_of id event) refl)
  where
    by_frame : (o : Option Frame) → is_open earlier id ≡ true → IsClosedLast (version_of earlier id) (cons_option o (frames_of earlier id))
    by_frame None opened = before
    by_frame (Some frame) opened = not_closed earlier id opened

    by_test : (b : Bool) → is_of id event ≡ b
        → IsClosedLast (version_of earlier id) (filter_map frame_of (if b then event ∷ filter (is_of id) earlier else filter (is_of id) earlier))
    by_test true own = by_frame (frame_of event) (open_when_accepted earlier event id plain own accepted)
    by_test false other = before

closed_last : (events : List Event) (id : Text) → IsAccepted events → IsClosedLast (version_of events id) (frames_of events id)
closed_last [] id accepted = tt
closed_last (Event.Invoke new ∷ earlier) id accepted = by_test (bytes_eq new.id id) refl (closed_last earlier id accepted.1)
  where
    by_test : (b : Bool) → bytes_eq new.id id ≡ b → IsClosedLast (version_of earlier id) (frames_of earlier id)
        → IsClosedLast (version_in (if b then Some new else invocation_begun earlier id)) (filter_map frame_of (if b then Event.Invoke new ∷ filter (is_of id) earlier else filter (is_of id) earlier))
    by_test true same before =
        let unknown : is_some (invocation_begun earlier id) ≡ false =
        ap (λ (x : Text). is_some (invocation_begun earlier x)) (sym ((bytes_eq-Decides new.id id).0 same)) ∙ begin_when_new earlier new accepted.0 in
        subst (IsClosedLast new.version) (sym (no_frames_of id earlier accepted.1 (none_of (invocation_begun earlier id) unknown))) tt
    by_test false same before = before
closed_last (event ∷ earlier) id accepted = closed_later event earlier id refl accepted.0 (closed_last earlier id accepted.1)

-- ---- the failure that closed it

pub record IsFailure (code : ℕ) (message : Text) (told : Option LastError) : Type 0 where
  pub error : LastError
  pub is : told ≡ Some error
  pub has_code : error.code ≡ code
  pub has_message : error.message ≡ message

none_found : (p : Frame → Bool) (frames : List Frame) → list_any p frames ≡ false → find p frames ≡ None
none_found p [] e = refl
none_found p (frame ∷ frames) e = by_test (p frame) refl e (none_found p frames)
  where
    by_test : (b : Bool) → p frame ≡ b → (b || list_any p frames) ≡ false → (list_any p frames ≡ false → find p frames ≡ None) → (if b then Some frame else find p frames) ≡ None
    by_test true same e later = cc
    by_test false same e later = later e

closing_error : (frame : Frame) (frames : List Frame) (code : ℕ) (message : Text) → closing_frame frame ≡ Some (ByFailure code message)
    → IsFailure code message (first_item (filter_map error_in (frame ∷ frames)))
closing_error (Frame.Error c m Fail delay) frames code message e =
    record { error = record { code = c; behavior = 2; delay = delay; message = m }; is = refl; has_code = cc; has_message = cc }
closing_error _ frames code message e = cc

failure_in : (version : ℕ) (frames : List Frame) (code : ℕ) (message : Text) → IsClosedLast version frames
    → option_and_then closing_frame (find (closes version) frames) ≡ Some (ByFailure code message) → IsFailure code message (first_item (filter_map error_in frames))
failure_in version [] code message last e = cc
failure_in version (frame ∷ frames) code message last e = by_test (closes version frame) e
  where
    by_test : (b : Bool) → option_and_then closing_frame (if b then Some frame else find (closes version) frames) ≡ Some (ByFailure code message)
        → IsFailure code message (first_item (filter_map error_in (frame ∷ frames)))
    by_test true e = closing_error frame frames code message e
    by_test false e =
        let nothing = ap (option_and_then closing_frame) (none_found (closes version) frames last) in
        let absent : None ≡ Some (ByFailure code message) = sym nothing ∙ e in
        cc

-- the last error is that of the frame which closed the invocation
pub closed_by_failure : (events : List Event) (id : Text) (code : ℕ) (message : Text) → IsAccepted events → closing_of events id ≡ Some (ByFailure code message)
    → IsFailure code message (last_error_of events id)
closed_by_failure events id code message accepted e = failure_in (version_of events id) (frames_of events id) code message (closed_last events id accepted) e
