-- An event that is not an invocation's, and one by which nothing is told, changes nothing of the invocation's progress.
use Rattle.std.proofs.Common.{ℕ, ◌+◌, zero-add, ◌≡◌, refl, ap, ap₂, ◌∙◌, Bool, true, false, ◌||◌, ◌&&◌, not, if◌then◌else◌, List, [], ◌∷◌, ◌++◌, append-nil, length, filter, filter_map, Option, Some, None, is_some, option_map, unwrap_or, option_and_then, bytes_eq, drop, ◌⊎◌, inl, inr}
use Rattle.std.specs.List.{list_any, find, cons_option}
use Rattle.journal_model.specs.Notification.{Text}
use Rattle.journal_model.specs.State.{StateMap}
use Rattle.journal_model.specs.declared.invocation.NewInvocation.{NewInvocation}
use Rattle.journal_model.specs.Event.{Frame, Event}
use Rattle.journal_model.specs.Journal.{Entry, Closing, is_of, is_tick, begins, invocation_begun, starting_state, closes, closing_frame, frame_of, frames_of, is_open, closing_of, requests_in, entries_of, entries_from, entries_added, arrivals_in}
use Rattle.journal_model.specs.Attempt.{begins_attempt, attempts_begun, suspension_in, suspension_of, is_woken}
use Rattle.journal_model.specs.Start.{is_some_entry, moment_begun, begun_since_entry, attempts_since_entry}
use Rattle.journal_model.specs.Cause.{last_completion}
use Rattle.journal_laws.proofs.ObjectState.{begun_before}
use Rattle.store_tables.specs.declared.row.LastError.{LastError}
use Rattle.due_laws.specs.AwakeNotes.{heard_in, heard_of, or_zero}
use Rattle.due_laws.specs.Awake.{is_quiet, is_still}
use Rattle.due_laws.proofs.Noting.{still_adds}
use Rattle.store_model.specs.Places.{handed_in, handed_of}
use Rattle.store_model.specs.Progress.{first_item, number_or_zero, payload_of_suspension, way_closed, error_in, last_error_of, last_output, progress_of}

-- no frame, or one by which nothing is told of an invocation
abbrev none_or_quiet : Option Frame → Bool
none_or_quiet None = true
none_or_quiet (Some frame) = is_quiet frame

abbrev pub Leaves : Event → Text → Type 0
Leaves event id = (is_of id event ≡ false) ⊎ (is_still event ≡ true)

pub both_same : {A : Type 0} (b : Bool) (x : A) → (if b then x else x) ≡ x
both_same true x = refl
both_same false x = refl

-- ---- what such an event is not

begins_not : (event : Event) (id : Text) → Leaves event id → begins id event ≡ false
begins_not (Event.Invoke new) id (inl e) = e
begins_not (Event.Invoke new) id (inr e) = cc
begins_not _ id h = refl

begins_no_attempt : (event : Event) (id : Text) → Leaves event id → begins_attempt id event ≡ false
begins_no_attempt (Event.Begin other now) id (inl e) = e
begins_no_attempt (Event.Begin other now) id (inr e) = cc
begins_no_attempt _ id h = refl

suspends_not : (event : Event) (id : Text) → Leaves event id → suspension_in id event ≡ None
suspends_not (Event.Move other attempt (Frame.Suspend suspension)) id (inl e) = rw e refl
suspends_not (Event.Move other attempt (Frame.Suspend suspension)) id (inr e) = cc
suspends_not _ id h = refl

hands_not : (earlier : List Event) (event : Event) (id : Text) → Leaves event id → handed_in earlier id event ≡ None
hands_not earlier (Event.Move other attempt frame) id (inl e) = rw e refl
hands_not earlier (Event.Move other attempt (Frame.Suspend suspension)) id (inr e) = cc
hands_not earlier (Event.Move other attempt Frame.End) id (inr e) = cc
hands_not earlier (Event.Move other attempt _) id (inr e) = both_same (bytes_eq other id) None
hands_not earlier _ id h = refl

tells_not : (earlier : List Event) (event : Event) (id : Text) → Leaves event id → heard_in earlier id event ≡ None
tells_not earlier (Event.Move other attempt frame) id (inl e) = rw e refl
tells_not earlier (Event.Move other attempt (Frame.Suspend suspension)) id (inr e) = cc
tells_not earlier (Event.Move other attempt Frame.End) id (inr e) = cc
tells_not earlier (Event.Move other attempt _) id (inr e) = both_same (bytes_eq other id) None
tells_not earlier _ id h = refl

no_moment : (event : Event) (id : Text) → Leaves event id → (if is_of id event then moment_begun event else []) ≡ []
no_moment (Event.Begin other now) id (inl e) = rw e refl
no_moment (Event.Begin other now) id (inr e) = cc
no_moment event id h = both_same (is_of id event) []

still_frame : (event : Event) → is_still event ≡ true → none_or_quiet (frame_of event) ≡ true
still_frame (Event.Move other attempt frame) e = e
still_frame _ e = refl

-- ---- what stays

begun_same : (event : Event) (events : List Event) (id : Text) → begins id event ≡ false → invocation_begun (event ∷ events) id ≡ invocation_begun events id
begun_same (Event.Invoke new) events id e = rw e refl
begun_same event events id e = begun_before event events id refl

start_same : (event : Event) (events : List Event) (id : Text) → begins id event ≡ false → starting_state (event ∷ events) id ≡ starting_state events id
start_same event events id e = rw e refl

-- what quiet frames do not change stays
frames_alike : {A : Type 0} (read : List Frame → A) → ((frame : Option Frame) → none_or_quiet frame ≡ true → (frames : List Frame) → read (cons_option frame frames) ≡ read frames)
    → (event : Event) (events : List Event) (id : Text) → Leaves event id → read (frames_of (event ∷ events) id) ≡ read (frames_of events id)
frames_alike read alike event events id (inl e) =
    ap (λ (b : Bool). read (filter_map frame_of (if b then event ∷ filter (is_of id) events else filter (is_of id) events))) e
frames_alike {A} read alike event events id (inr e) = by_test (is_of id event)
  where
    by_test : (b : Bool) → read (filter_map frame_of (if b then event ∷ filter (is_of id) events else filter (is_of id) events)) ≡ read (frames_of events id)
    by_test true = alike (frame_of event) (still_frame event e) (frames_of events id)
    by_test false = refl

abbrev pub version_in : Option NewInvocation → ℕ
version_in o = unwrap_or (option_map (λ (new : NewInvocation). new.version) o) 0

abbrev pub opened : Option NewInvocation → List Frame → Bool
opened o frames = is_some o && not (list_any (closes (version_in o)) frames)

opened-quiet : (o : Option NewInvocation) (frame : Option Frame) → none_or_quiet frame ≡ true → (frames : List Frame) → opened o (cons_option frame frames) ≡ opened o frames
opened-quiet o None e frames = refl
opened-quiet o (Some (Frame.AwaitingOn awaited)) e frames = refl
opened-quiet o (Some Frame.Broken) e frames = refl
opened-quiet o (Some Frame.TooDeep) e frames = refl
opened-quiet o (Some Frame.NotAccepted) e frames = refl
opened-quiet o (Some _) e frames = cc

abbrev pub closed_by : Option NewInvocation → List Frame → Option Closing
closed_by o frames = option_and_then closing_frame (find (closes (version_in o)) frames)

closed-quiet : (o : Option NewInvocation) (frame : Option Frame) → none_or_quiet frame ≡ true → (frames : List Frame) → closed_by o (cons_option frame frames) ≡ closed_by o frames
closed-quiet o None e frames = refl
closed-quiet o (Some (Frame.AwaitingOn awaited)) e frames = refl
closed-quiet o (Some Frame.Broken) e frames = refl
closed-quiet o (Some Frame.TooDeep) e frames = refl
closed-quiet o (Some Frame.NotAccepted) e frames = refl
closed-quiet o (Some _) e frames = cc

abbrev pub error_of : List Frame → Option LastError
error_of frames = first_item (filter_map error_in frames)

error-quiet : (frame : Option Frame) → none_or_quiet frame ≡ true → (frames : List Frame) → error_of (cons_option frame frames) ≡ error_of frames
error-quiet None e frames = refl
error-quiet (Some (Frame.AwaitingOn awaited)) e frames = refl
error-quiet (Some Frame.Broken) e frames = refl
error-quiet (Some Frame.TooDeep) e frames = refl
error-quiet (Some Frame.NotAccepted) e frames = refl
error-quiet (Some _) e frames = cc

module _ (events : List Event) (event : Event) (id : Text) (leaves : Leaves event id) where
  pub same_begun : invocation_begun (event ∷ events) id ≡ invocation_begun events id
  same_begun = begun_same event events id (begins_not event id leaves)

  same_start : starting_state (event ∷ events) id ≡ starting_state events id
  same_start = start_same event events id (begins_not event id leaves)

  pub same_open : is_open (event ∷ events) id ≡ is_open events id
  same_open =
      ap (λ (o : Option NewInvocation). opened o (frames_of (event ∷ events) id)) same_begun
      ∙ frames_alike (opened (invocation_begun events id)) (opened-quiet (invocation_begun events id)) event events id leaves

  same_closing : closing_of (event ∷ events) id ≡ closing_of events id
  same_closing =
      ap (λ (o : Option NewInvocation). closed_by o (frames_of (event ∷ events) id)) same_begun
      ∙ frames_alike (closed_by (invocation_begun events id)) (closed-quiet (invocation_begun events id)) event events id leaves

  same_error : last_error_of (event ∷ events) id ≡ last_error_of events id
  same_error = frames_alike error_of error-quiet event events id leaves

  same_attempts : attempts_begun (event ∷ events) id ≡ attempts_begun events id
  same_attempts = rw (begins_no_attempt event id leaves) (zero-add (attempts_begun events id))

  same_suspension : suspension_of (event ∷ events) id ≡ suspension_of events id
  same_suspension = rw (begins_no_attempt event id leaves, suspends_not event id leaves) refl

  same_handed : handed_of (event ∷ events) id ≡ handed_of events id
  same_handed = rw (begins_no_attempt event id leaves, hands_not events event id leaves) refl

  same_heard : heard_of (event ∷ events) id ≡ heard_of events id
  same_heard = rw (begins_no_attempt event id leaves, tells_not events event id leaves) refl

  module _ (nothing : entries_added (starting_state events id) events id event (entries_of events id) ≡ []) where
    pub same_entries : entries_of (event ∷ events) id ≡ entries_of events id
    same_entries =
        ap (λ (start : StateMap). entries_from start (event ∷ events) id) same_start
        ∙ ap (λ (more : List Entry). entries_of events id ++ more) nothing
        ∙ append-nil (entries_of events id)

    same_moments : attempts_since_entry (event ∷ events) id ≡ attempts_since_entry events id
    same_moments =
        ap (λ (start : StateMap). begun_since_entry start (event ∷ events) id) same_start
        ∙ ap₂ (λ (added : List Entry) (moments : List ℕ). if is_some_entry added then [] else attempts_since_entry events id ++ moments) nothing (no_moment event id leaves)
        ∙ append-nil (attempts_since_entry events id)

    pub same_progress : progress_of (event ∷ events) id ≡ progress_of events id
    same_progress = λ i. record {
      open_object = if same_open i then option_map (λ (new : NewInvocation). new.object) (same_begun i) else None;
      suspension = option_map payload_of_suspension (same_suspension i);
      handed = same_handed i;
      closing = option_map way_closed (same_closing i);
      answer = last_output (requests_in (same_entries i));
      last_error = same_error i;
      attempts = same_attempts i;
      attempts_since_entry = length (same_moments i);
      first_moment = number_or_zero (first_item (same_moments i));
      last_completion = last_completion (requests_in (same_entries i));
      entries = 1 + length (same_entries i);
      heard = same_heard i;
      arrivals = length (arrivals_in (same_entries i));
      is_awake = same_open i && is_woken (drop (or_zero (same_heard i)) (arrivals_in (same_entries i))) (same_suspension i);
    }

-- ---- which events add nothing

pub foreign_adds : (start : StateMap) (events : List Event) (event : Event) (id : Text) (entries : List Entry) → is_of id event ≡ false → is_tick event ≡ false
    → entries_added start events id event entries ≡ []
foreign_adds start events event id entries e f = rw (e, f) refl

-- an event of another invocation, and one by which nothing is told, add nothing
pub nothing_added : (start : StateMap) (events : List Event) (event : Event) (id : Text) (entries : List Entry) → is_tick event ≡ false → Leaves event id
    → entries_added start events id event entries ≡ []
nothing_added start events event id entries f (inl e) = foreign_adds start events event id entries e f
nothing_added start events event id entries f (inr e) =
    ap (λ (added : List Entry). if is_of id event || (is_tick event && is_open events id) then added else []) (still_adds start entries event e)
    ∙ both_same (is_of id event || (is_tick event && is_open events id)) []
