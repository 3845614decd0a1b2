-- Which events do not close an invocation by its end, and what is left as it is by those that add nothing.
use Rattle.std.proofs.Common.{◌≡◌, refl, sym, ap, ◌∙◌, Bool, true, false, true≢false, ◌&&◌, if◌then◌else◌, List, [], ◌∷◌, ◌++◌, append-nil, Option, Some, None, bytes_eq, filter, filter_map, option_and_then}
use Rattle.std.specs.List.{find}
use Rattle.journal_model.specs.Notification.{Text}
use Rattle.journal_model.specs.Event.{Event, Frame}
use Rattle.journal_model.specs.Journal.{Entry, is_of, is_tick, begins, version_of, closes, frame_of, frames_of, is_open, requests_in, arrivals_in, recorded_requests, recorded_arrivals, Closing, closing_frame, closing_of}
use Rattle.journal_model.specs.Cause.{causes_of, IsAccepted}
use Rattle.journal_laws.proofs.ObjectState.{open_when_accepted}
use Rattle.input_laws.proofs.Events.{added_by, requests_now, arrivals_now, nothing_added, not_begun, no_frames, closing_now, open_unclosed, frames_other, frames_own, is_end, not_by_end}

pub no_end : ◌≡◌ {A = Option Closing} None (Some Closing.ByEnd) → ⊥
no_end e = cc

-- an open invocation is not closed
pub open_not_ended : (events : List Event) (id : Text) → is_open events id ≡ true → closing_of events id ≡ None
open_not_ended events id opened = ap (λ (o : Option Frame). option_and_then closing_frame o) (open_unclosed events id opened)

module _ (event : Event) (events : List Event) (id : Text) where
  -- an event that adds nothing leaves what is recorded
  module _ (old : begins id event ≡ false) (nothing : added_by events id event ≡ []) where
    pub requests_stay : recorded_requests (event ∷ events) id ≡ recorded_requests events id
    requests_stay = requests_now event events id old ∙ ap (λ (added : List Entry). recorded_requests events id ++ requests_in added) nothing ∙ append-nil (recorded_requests events id)

    pub arrivals_stay : recorded_arrivals (event ∷ events) id ≡ recorded_arrivals events id
    arrivals_stay = arrivals_now event events id old ∙ ap (λ (added : List Entry). recorded_arrivals events id ++ arrivals_in added) nothing ∙ append-nil (recorded_arrivals events id)

  -- one that is none of its own closes nothing, and adds nothing to what is closed
  pub closing_stays : begins id event ≡ false → is_of id event ≡ false → closing_of (event ∷ events) id ≡ closing_of events id
  closing_stays old other = closing_now event events id old ∙ ap (λ (frames : List Frame). option_and_then closing_frame (find (closes (version_of events id)) frames)) (frames_other event events id other)

  pub none_added : is_of id event ≡ false → closing_of events id ≡ Some Closing.ByEnd → added_by events id event ≡ []
  none_added other closed = nothing_added events id event other (no_tick (is_tick event) (is_open events id) refl)
    where
      no_tick : (t o : Bool) → is_open events id ≡ o → (t && o) ≡ false
      no_tick true true e = absurd (no_end (sym (open_not_ended events id e) ∙ closed))
      no_tick true false e = refl
      no_tick false o e = refl

  -- one of its own other than its end does not close it by the end
  pub no_end_by : begins id event ≡ false → is_of id event ≡ true → is_open events id ≡ true → is_end (frame_of event) ≡ false → closing_of (event ∷ events) id ≡ Some Closing.ByEnd → ⊥
  no_end_by old own opened not_end closing =
      not_by_end (version_of events id) (frame_of event) (frames_of events id) not_end (open_unclosed events id opened)
      (sym (closing_now event events id old
      ∙ ap (λ (frames : List Frame). option_and_then closing_frame (find (closes (version_of events id)) frames)) (frames_own event events id own)) ∙ closing)

-- behind its first event it is not closed
pub first_unclosed : (event : Event) (events : List Event) (id : Text) → IsAccepted (event ∷ events) → begins id event ≡ true → closing_of (event ∷ events) id ≡ None
first_unclosed event events id accepted e = by_event event e (no_frames events accepted.1 id (not_begun event events id accepted e))
  where
    by_event : (event : Event) → begins id event ≡ true → frames_of events id ≡ [] → closing_of (event ∷ events) id ≡ None
    by_event (Event.Invoke new) e none =
        ap (λ (frames : List Frame). option_and_then closing_frame (find (closes (version_of (Event.Invoke new ∷ events) id)) frames)) (skipped (bytes_eq new.id id) ∙ none)
      where
        skipped : (b : Bool) → filter_map frame_of (if b then Event.Invoke new ∷ filter (is_of id) events else filter (is_of id) events) ≡ frames_of events id
        skipped true = refl
        skipped false = refl
    by_event event e none = absurd (true≢false (sym e))

-- and it was open where a later event of its own is accepted
pub open_before : (event : Event) (events : List Event) (id : Text) → begins id event ≡ false → is_of id event ≡ true → causes_of events event ≡ [] → is_open events id ≡ true
open_before (Event.Invoke new) events id e f causes = absurd (true≢false (sym f ∙ e))
open_before event events id e f causes = open_when_accepted events event id refl f causes
