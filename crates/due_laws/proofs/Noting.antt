-- How each kind of event changes what is kept.
use Rattle.std.proofs.Common.{ℕ, ◌+◌, arith, ◌≡◌, ◌≢◌, refl, sym, ap, ap₂, subst, ◌∙◌, true≢false, Bool, true, false, ◌&&◌, ◌||◌, not, if◌then◌else◌, List, [], ◌∷◌, ◌++◌, append-nil, length, length-append, map, drop, filter, filter_map, Option, Some, None, is_some, bytes_eq}
use Rattle.std.specs.List.{cons_option}
use Rattle.std.proofs.lemmas.Slice.Eq.{bytes_eq-Decides}
use Rattle.journal_model.specs.Notification.{Text, Arrival, cancel_id}
use Rattle.journal_model.specs.declared.notification.NotificationResult.{NotificationResult}
use Rattle.journal_model.specs.State.{StateMap, state_after}
use Rattle.journal_model.specs.Request.{Request}
use Rattle.journal_model.specs.declared.invocation.NewInvocation.{NewInvocation}
use Rattle.journal_model.specs.Event.{Behavior, Frame, Event, Suspension}
use Rattle.journal_model.specs.Journal.{Entry, Arrived, completion, id_of_signal, is_of, is_tick, invoked_by, begins, invocation_begun, version_of, closes, frame_of, frames_of, is_open, starting_state, requests_in, arrivals_in, read_answer, slept, entries_of, entries_of_event, recorded_arrivals}
use Rattle.journal_model.specs.Attempt.{begins_attempt, ends_live, live_attempt, suspension_in, or_before, suspension_of, is_woken}
use Rattle.journal_model.specs.Cause.{is_of_frame, causes_of, IsAccepted, added_by as left_by, stop_of, stops_of}
use Rattle.journal_model.specs.declared.cause.Cause.{Cause}
use Rattle.journal_laws.proofs.ObjectState.{begun_before, open_when_accepted}
use Rattle.input_laws.proofs.Events.{added_by, begun_same, entries_first, arrivals_now, nothing_added, not_begun, unborn_open, no_frames}
use Rattle.input_laws.proofs.Handed.{other_begins}
use Rattle.input_laws.proofs.LiveAttempts.{numbered, taken_live, none_live, live_now}
use Rattle.input_laws.proofs.Once.{arrivals_arrived}
use Rattle.due_laws.specs.Awake.{arrivals_heard, heard_at, heard_in, or_kept, heard_of, or_zero, not_heard, is_awake_kept, noted_of, after_arrivals, answers_at_once, noted_after_frame, is_still, NotedInvoked, NotedFollows, NotedTicks, NotedUnticked, NotedElsewhere, NotedStill, NotedRefused, NotedOpened, LiveIsAwake}
use Rattle.due_laws.proofs.Growing.{awake_grows}
use Rattle.due_laws.proofs.Heard.{heard_now, heard_anew, was_told, heard_is_within}
use Rattle.due_laws.proofs.Opened.{opened, closes_in, open_own, open_other, live_open}

both_same : {A : Type 0} (b : Bool) (x : A) → (if b then x else x) ≡ x
both_same true x = refl
both_same false x = refl

suspension_now : (events : List Event) (event : Event) (id : Text) (o : Option Suspension) → begins_attempt id event ≡ false → suspension_in id event ≡ o
    → suspension_of (event ∷ events) id ≡ or_before o (suspension_of events id)
suspension_now events event id o going e =
    ap (λ (b : Bool). if b then None else or_before (suspension_in id event) (suspension_of events id)) going ∙ ap (λ (p : Option Suspension). or_before p (suspension_of events id)) e

suspension_anew : (events : List Event) (event : Event) (id : Text) → begins_attempt id event ≡ true → suspension_of (event ∷ events) id ≡ None
suspension_anew events event id e = ap (λ (b : Bool). if b then None else or_before (suspension_in id event) (suspension_of events id)) e

added_own : (events : List Event) (event : Event) (id : Text) → is_of id event ≡ true → added_by events id event ≡ entries_of_event (starting_state events id) (entries_of events id) event
added_own events event id own =
    ap (λ (b : Bool). if b || (is_tick event && is_open events id) then entries_of_event (starting_state events id) (entries_of events id) event else []) own

-- ---- by what an event changes

module _ (events : List Event) (event : Event) (id : Text) (old : begins id event ≡ false) where
  noted_now : (is : Bool) (heard : Option ℕ) (s : Option Suspension) (new : List Arrival) → is_open (event ∷ events) id ≡ is → heard_of (event ∷ events) id ≡ heard
      → suspension_of (event ∷ events) id ≡ s → arrivals_in (added_by events id event) ≡ new
      → noted_of (event ∷ events) id
      ≡ record { heard = heard; arrivals = length (recorded_arrivals events id) + length new; is_awake = is && is_woken (drop (or_zero heard) (recorded_arrivals events id ++ new)) s }
  noted_now is heard s new e f g h =
      let arrived : recorded_arrivals (event ∷ events) id ≡ recorded_arrivals events id ++ new =
      arrivals_now event events id old ∙ ap (λ (some : List Arrival). recorded_arrivals events id ++ some) h in
      let counted : length (recorded_arrivals (event ∷ events) id) ≡ length (recorded_arrivals events id) + length new =
      ap (λ (some : List Arrival). length some) arrived ∙ length-append (recorded_arrivals events id) new in
      λ i. record { heard = f i; arrivals = counted i; is_awake = e i && is_woken (drop (or_zero (f i)) (arrived i)) (g i) }

  noted_same : is_open (event ∷ events) id ≡ is_open events id → heard_of (event ∷ events) id ≡ heard_of events id → suspension_of (event ∷ events) id ≡ suspension_of events id
      → arrivals_in (added_by events id event) ≡ [] → noted_of (event ∷ events) id ≡ noted_of events id
  noted_same e f g h =
      let arrived : recorded_arrivals (event ∷ events) id ≡ recorded_arrivals events id =
      arrivals_now event events id old ∙ ap (λ (some : List Arrival). recorded_arrivals events id ++ some) h ∙ append-nil (recorded_arrivals events id) in
      λ i. record { heard = f i; arrivals = length (arrived i); is_awake = e i && is_woken (drop (or_zero (f i)) (arrived i)) (g i) }

  -- arrivals
  arrives : IsAccepted events → is_open events id ≡ true → begins_attempt id event ≡ false → heard_in events id event ≡ None → suspension_in id event ≡ None
      → is_open (event ∷ events) id ≡ true → (new : List Arrival) → arrivals_in (added_by events id event) ≡ new
      → noted_of (event ∷ events) id ≡ after_arrivals events id new (noted_of events id)
  arrives accepted was going tells waits is new h =
      noted_now true (heard_of events id) (suspension_of events id) new is (heard_now events event id None going tells) (suspension_now events event id None going waits) h
      ∙ (λ i. record { heard = heard_of events id; arrivals = length (recorded_arrivals events id) + length new; is_awake = woken i })
    where
      by_or : (a b : Bool) → (a ≡ true → b ≡ true) → b ≡ ((true && a) || b)
      by_or true b h = h refl
      by_or false b h = refl

      woken : (true && is_woken (drop (or_zero (heard_of events id)) (recorded_arrivals events id ++ new)) (suspension_of events id))
          ≡ ((is_open events id && is_woken (not_heard events id) (suspension_of events id)) || is_woken (not_heard events id ++ new) (suspension_of events id))
      woken =
          ap (λ (some : List Arrival). is_woken some (suspension_of events id)) (heard_is_within events id accepted new)
          ∙ by_or (is_woken (not_heard events id) (suspension_of events id)) (is_woken (not_heard events id ++ new) (suspension_of events id))
          (awake_grows (not_heard events id) new (suspension_of events id))
          ∙ ap (λ (b : Bool). (b && is_woken (not_heard events id) (suspension_of events id)) || is_woken (not_heard events id ++ new) (suspension_of events id)) (sym was)

  -- a frame of a live attempt that tells neither that it waits nor that it has ended
  goes_on : is_open events id ≡ true → suspension_of events id ≡ None → begins_attempt id event ≡ false → heard_in events id event ≡ None → suspension_in id event ≡ None
      → (is : Bool) → is_open (event ∷ events) id ≡ is → (count : ℕ) → length (arrivals_in (added_by events id event)) ≡ count
      → noted_of (event ∷ events) id ≡ record (noted_of events id) { arrivals = length (recorded_arrivals events id) + count; is_awake = if is then is_awake_kept events id else false }
  goes_on was free going tells waits is e count h =
      noted_now is (heard_of events id) None (arrivals_in (added_by events id event)) e (heard_now events event id None going tells)
      (suspension_now events event id None going waits ∙ free) refl
      ∙ (λ i. record { heard = heard_of events id; arrivals = length (recorded_arrivals events id) + h i; is_awake = by_open is i })
    where
      awake : true ≡ is_awake_kept events id
      awake = sym (ap₂ (λ (b : Bool) (s : Option Suspension). b && is_woken (not_heard events id) s) was free)

      by_open : (b : Bool) → (b && true) ≡ (if b then is_awake_kept events id else false)
      by_open true = awake
      by_open false = refl

-- ---- events of another invocation, and by which nothing is told

other_invokes : (event : Event) (id : Text) → is_of id event ≡ false → begins id event ≡ false
other_invokes (Event.Invoke new) id e = e
other_invokes _ id e = refl

other_tells : (events : List Event) (event : Event) (id : Text) → is_of id event ≡ false → heard_in events id event ≡ None
other_tells events (Event.Move other attempt frame) id e = ap (λ (b : Bool). if b then heard_at events id frame else None) e
other_tells events _ id e = refl

other_waits : (event : Event) (id : Text) → is_of id event ≡ false → suspension_in id event ≡ None
other_waits (Event.Move other attempt (Frame.Suspend suspension)) id e = ap (λ (b : Bool). if b then suspension else None) e
other_waits _ id e = refl

pub noted_elsewhere : NotedElsewhere
noted_elsewhere events event id other tick =
    noted_same events event id (other_invokes event id other) (open_other event events id (other_invokes event id other) other)
    (heard_now events event id None (other_begins event id other) (other_tells events event id other))
    (suspension_now events event id None (other_begins event id other) (other_waits event id other))
    (ap arrivals_in (nothing_added events id event other (ap (λ (b : Bool). b && is_open events id) tick)))

still_tells : (events : List Event) (event : Event) (id : Text) → is_still event ≡ true → heard_in events id event ≡ None
still_tells events (Event.Move other attempt (Frame.Suspend suspension)) id e = cc
still_tells events (Event.Move other attempt Frame.End) id e = cc
still_tells events (Event.Move other attempt _) id e = both_same (bytes_eq other id) None
still_tells events _ id e = refl

still_waits : (event : Event) (id : Text) → is_still event ≡ true → suspension_in id event ≡ None
still_waits (Event.Move other attempt (Frame.Suspend suspension)) id e = cc
still_waits _ id e = refl

still_invokes : (event : Event) (id : Text) → is_still event ≡ true → begins id event ≡ false
still_invokes (Event.Invoke new) id e = cc
still_invokes _ id e = refl

still_begins : (event : Event) (id : Text) → is_still event ≡ true → begins_attempt id event ≡ false
still_begins (Event.Begin other now) id e = cc
still_begins _ id e = refl

pub still_adds : (start : StateMap) (entries : List Entry) (event : Event) → is_still event ≡ true → entries_of_event start entries event ≡ []
still_adds start entries (Event.Feed id attempt most) e = refl
still_adds start entries (Event.Close id attempt) e = refl
still_adds start entries (Event.Stop id attempt) e = refl
still_adds start entries (Event.Move id attempt (Frame.AwaitingOn awaited)) e = refl
still_adds start entries (Event.Move id attempt Frame.Broken) e = refl
still_adds start entries (Event.Move id attempt Frame.TooDeep) e = refl
still_adds start entries (Event.Move id attempt Frame.NotAccepted) e = refl
still_adds start entries (Event.Move id attempt _) e = cc
still_adds start entries _ e = cc

still_opened : (o : Option NewInvocation) (event : Event) (frames : List Frame) → is_still event ≡ true → opened o (cons_option (frame_of event) frames) ≡ opened o frames
still_opened o (Event.Feed id attempt most) frames e = refl
still_opened o (Event.Close id attempt) frames e = refl
still_opened o (Event.Stop id attempt) frames e = refl
still_opened o (Event.Move id attempt (Frame.AwaitingOn awaited)) frames e = refl
still_opened o (Event.Move id attempt Frame.Broken) frames e = refl
still_opened o (Event.Move id attempt Frame.TooDeep) frames e = refl
still_opened o (Event.Move id attempt Frame.NotAccepted) frames e = refl
still_opened o (Event.Move id attempt _) frames e = cc
still_opened o _ frames e = cc

still_open : (event : Event) (events : List Event) (id : Text) → is_still event ≡ true → is_open (event ∷ events) id ≡ is_open events id
still_open event events id e =
    ap (λ (o : Option NewInvocation). opened o (frames_of (event ∷ events) id)) (begun_same event events id (still_invokes event id e)) ∙ by_test (is_of id event)
  where
    by_test : (b : Bool) → opened (invocation_begun events id) (filter_map frame_of (if b then event ∷ filter (is_of id) events else filter (is_of id) events))
        ≡ opened (invocation_begun events id) (frames_of events id)
    by_test true = still_opened (invocation_begun events id) event (frames_of events id) e
    by_test false = refl

pub noted_still : NotedStill
noted_still events event id e =
    noted_same events event id (still_invokes event id e) (still_open event events id e)
    (heard_now events event id None (still_begins event id e) (still_tells events event id e))
    (suspension_now events event id None (still_begins event id e) (still_waits event id e))
    (ap (λ (added : List Entry). arrivals_in (if is_of id event || (is_tick event && is_open events id) then added else []))
    (still_adds (starting_state events id) (entries_of events id) event e)
    ∙ ap arrivals_in (both_same (is_of id event || (is_tick event && is_open events id)) []))

refused : (events : List Event) (event : Event) (id : Text) (causes : List Cause) → causes ≢ [] → noted_of (left_by event causes ++ events) id ≡ noted_of events id
refused events event id [] h = absurd (h refl)
refused events (Event.Move other attempt frame) id (cause ∷ causes) h = by_frame (is_of_frame cause)
  where
    by_frame : (b : Bool) → noted_of ((if b then Event.Stop other attempt ∷ [] else []) ++ events) id ≡ noted_of events id
    by_frame true = noted_still events (Event.Stop other attempt) id refl
    by_frame false = refl
refused events event id (cause ∷ causes) h = refl

pub noted_refused : NotedRefused
noted_refused events event id h = refused events event id (causes_of events event) h

stops_note_nothing : (all events : List Event) (news : List NewInvocation) (id : Text) → noted_of (stops_of all news ++ events) id ≡ noted_of events id
stops_note_nothing all events [] id = refl
stops_note_nothing all events (new ∷ news) id = by_live (live_attempt all new.id) (stops_note_nothing all events news id)
  where
    by_live : (o : Option ℕ) → noted_of (stops_of all news ++ events) id ≡ noted_of events id → noted_of ((stop_of new.id o ++ stops_of all news) ++ events) id ≡ noted_of events id
    by_live None later = later
    by_live (Some attempt) later = noted_still (stops_of all news ++ events) (Event.Stop new.id attempt) id refl ∙ later

pub noted_opened : NotedOpened
noted_opened events id = stops_note_nothing events events (filter_map invoked_by events) id

-- ---- ticks

ticked : (events : List Event) (now : ℕ) (id : Text) → is_open (Event.Tick now ∷ events) id ≡ is_open events id
ticked events now id = open_other (Event.Tick now) events id refl refl

pub noted_ticks : NotedTicks
noted_ticks events now id accepted was =
    arrives events (Event.Tick now) id refl accepted was refl refl refl (ticked events now id ∙ was) (slept (entries_of events id) now)
    (ap (λ (b : Bool). arrivals_in (if b then map Arrived (slept (entries_of events id) now) else [])) was ∙ arrivals_arrived (slept (entries_of events id) now))

pub noted_unticked : NotedUnticked
noted_unticked events now id accepted none = noted_same events (Event.Tick now) id refl (ticked events now id) refl refl (by_open (is_open events id) none)
  where
    by_open : (b : Bool) → (b ≡ true → slept (entries_of events id) now ≡ []) → arrivals_in (if b then map Arrived (slept (entries_of events id) now) else []) ≡ []
    by_open true none = ap (λ (some : List Arrival). arrivals_in (map Arrived some)) (none refl)
    by_open false none = refl

-- ---- a new invocation

still_unborn : (event : Event) (earlier : List Event) (id : Text) → invocation_begun earlier id ≡ None → (is_of id event ≡ true → is_open earlier id ≡ true)
    → (heard_of earlier id ≡ None) × (suspension_of earlier id ≡ None) → (heard_of (event ∷ earlier) id ≡ None) × (suspension_of (event ∷ earlier) id ≡ None)
still_unborn event earlier id unborn was later = by_cases (is_of id event) refl
  where
    by_cases : (b : Bool) → is_of id event ≡ b → (heard_of (event ∷ earlier) id ≡ None) × (suspension_of (event ∷ earlier) id ≡ None)
    by_cases true f = absurd (true≢false (sym (was f) ∙ unborn_open earlier id unborn))
    by_cases false f = (
      heard_now earlier event id None (other_begins event id f) (other_tells earlier event id f) ∙ later.0,
      suspension_now earlier event id None (other_begins event id f) (other_waits event id f) ∙ later.1,
    )

unborn_noted : (events : List Event) → IsAccepted events → (id : Text) → invocation_begun events id ≡ None → (heard_of events id ≡ None) × (suspension_of events id ≡ None)
unborn_noted [] accepted id e = (refl, refl)
unborn_noted (Event.Invoke new ∷ earlier) accepted id e = by_cases (bytes_eq new.id id) e (unborn_noted earlier accepted.1 id)
  where
    by_cases : (b : Bool) → (if b then Some new else invocation_begun earlier id) ≡ None
        → (invocation_begun earlier id ≡ None → (heard_of earlier id ≡ None) × (suspension_of earlier id ≡ None)) → (heard_of earlier id ≡ None) × (suspension_of earlier id ≡ None)
    by_cases true e later = cc
    by_cases false e later = later e
unborn_noted (event ∷ earlier) accepted id e =
    still_unborn event earlier id (sym (begun_before event earlier id refl) ∙ e) (λ f. open_when_accepted earlier event id refl f accepted.0)
    (unborn_noted earlier accepted.1 id (sym (begun_before event earlier id refl) ∙ e))

pub noted_invoked : NotedInvoked
noted_invoked events new id accepted e =
    let unborn : invocation_begun events id ≡ None = not_begun (Event.Invoke new) events id accepted e in
    let none = unborn_noted events accepted.1 id unborn in
    let arrived : recorded_arrivals (Event.Invoke new ∷ events) id ≡ [] = ap arrivals_in (entries_first (Event.Invoke new) events id accepted e) in
    let begun : invocation_begun (Event.Invoke new ∷ events) id ≡ Some new = ap (λ (b : Bool). if b then Some new else invocation_begun events id) e in
    let frames : frames_of (Event.Invoke new ∷ events) id ≡ [] = by_id (bytes_eq new.id id) ∙ no_frames events accepted.1 id unborn in
    let is : is_open (Event.Invoke new ∷ events) id ≡ true = ap₂ opened begun frames in
    λ i. record { heard = none.0 i; arrivals = length (arrived i); is_awake = is i && is_woken (drop (or_zero (none.0 i)) (arrived i)) (none.1 i) }
  where
    by_id : (b : Bool) → filter_map frame_of (if b then Event.Invoke new ∷ filter (is_of id) events else filter (is_of id) events) ≡ frames_of events id
    by_id true = refl
    by_id false = refl

-- ---- a live attempt

same_text : (a b : Text) → bytes_eq a b ≡ true → a ≡ b
same_text a b e = (bytes_eq-Decides a b).0 e

live_free : (events : List Event) (id : Text) → IsAccepted events → is_some (live_attempt events id) ≡ true → suspension_of events id ≡ None
live_free events id accepted live = by_suspension (suspension_of events id) refl
  where
    by_suspension : (o : Option Suspension) → suspension_of events id ≡ o → o ≡ None
    by_suspension None e = refl
    by_suspension (Some s) e = absurd (true≢false (sym live ∙ ap is_some (was_told events id s accepted e).dead))

taken_free : (events : List Event) (other : Text) (attempt : ℕ) (frame : Frame) (id : Text) → IsAccepted (Event.Move other attempt frame ∷ events) → bytes_eq other id ≡ true
    → suspension_of events id ≡ None
taken_free events other attempt frame id accepted own =
    live_free events id accepted.1
    (subst (λ (x : Text). is_some (live_attempt events x) ≡ true) (same_text other id own) (numbered events other attempt (taken_live events other attempt frame accepted.0)))

heard_ends : (events : List Event) (event : Event) (id : Text) (n : ℕ) → heard_in events id event ≡ Some n → (is_of id event && ends_live event) ≡ true
heard_ends events (Event.Move other attempt (Frame.Suspend suspension)) id n e = by_id (bytes_eq other id) e
  where
    by_id : (b : Bool) → (if b then Some (arrivals_heard events id) else None) ≡ Some n → (b && true) ≡ true
    by_id true e = refl
    by_id false e = cc
heard_ends events (Event.Move other attempt Frame.End) id n e = by_id (bytes_eq other id) e
  where
    by_id : (b : Bool) → (if b then Some (arrivals_heard events id) else None) ≡ Some n → (b && true) ≡ true
    by_id true e = refl
    by_id false e = cc
heard_ends events (Event.Move other attempt frame) id n e =
    absurd (nothing (sym (both_same {A = Option ℕ} (bytes_eq other id) None) ∙ e))
  where
    nothing : ◌≡◌ {A = Option ℕ} None (Some n) → ⊥
    nothing e = cc
heard_ends events _ id n e = cc

heard_dead : (events : List Event) (id : Text) (n : ℕ) → heard_of events id ≡ Some n → live_attempt events id ≡ None
heard_dead [] id n e = refl
heard_dead (event ∷ events) id n e = by_begin (begins_attempt id event) refl e (heard_dead events id n)
  where
    by_end : begins_attempt id event ≡ false → live_attempt events id ≡ None → (b : Bool) → (is_of id event && ends_live event) ≡ b → live_attempt (event ∷ events) id ≡ None
    by_end f dead true g = none_live event events id f g
    by_end f dead false g = live_now event events id f g ∙ dead

    by_in : begins_attempt id event ≡ false → (o : Option ℕ) → heard_in events id event ≡ o → or_kept o (heard_of events id) ≡ Some n
        → (heard_of events id ≡ Some n → live_attempt events id ≡ None) → live_attempt (event ∷ events) id ≡ None
    by_in f None g e before = by_end f (before e) (is_of id event && ends_live event) refl
    by_in f (Some m) g e before = none_live event events id f (heard_ends events event id m g)

    by_begin : (b : Bool) → begins_attempt id event ≡ b → (if b then None else or_kept (heard_in events id event) (heard_of events id)) ≡ Some n
        → (heard_of events id ≡ Some n → live_attempt events id ≡ None) → live_attempt (event ∷ events) id ≡ None
    by_begin true f e before = cc
    by_begin false f e before = by_in f (heard_in events id event) refl e before

pub live_is_awake : LiveIsAwake
live_is_awake events id attempt accepted live =
    let free : suspension_of events id ≡ None = live_free events id accepted (ap is_some live) in (
      ap₂ (λ (b : Bool) (s : Option Suspension). b && is_woken (not_heard events id) s) (live_open events id attempt accepted live) free,
      free,
      by_heard (heard_of events id) refl,
    )
  where
    by_heard : (o : Option ℕ) → heard_of events id ≡ o → o ≡ None
    by_heard None e = refl
    by_heard (Some n) e = absurd (nothing (sym (heard_dead events id n e) ∙ live))
      where
        nothing : ◌≡◌ {A = Option ℕ} None (Some attempt) → ⊥
        nothing e = cc

-- ---- events of the invocation

answers : (state : StateMap) (request : Request) → length (arrivals_in (map Arrived (read_answer state request))) ≡ answers_at_once request
answers state (Request.GetLazyState key n name) = refl
answers state (Request.GetLazyStateKeys n name) = refl
answers state _ = refl

module _ (events : List Event) (event : Event) (id : Text) (accepted : IsAccepted (event ∷ events)) (own : is_of id event ≡ true) (fresh : invoked_by event ≡ None) where
  was_open : is_open events id ≡ true
  was_open = open_when_accepted events event id fresh own accepted.0

-- a frame of an attempt, one of these
module _ (events : List Event) (id : Text) (other : Text) (attempt : ℕ) (own : bytes_eq other id ≡ true) where
  command_noted : (request : Request) → IsAccepted (Event.Move other attempt (Frame.Command request) ∷ events)
      → noted_of (Event.Move other attempt (Frame.Command request) ∷ events) id ≡ noted_after_frame events id (Frame.Command request) (noted_of events id)
  command_noted request accepted =
      let event = Event.Move other attempt (Frame.Command request) in
      let was = was_open events event id accepted own refl in
      goes_on events event id refl was (taken_free events other attempt (Frame.Command request) id accepted own) refl (both_same (bytes_eq other id) None) refl true
      (open_own event events id refl own was) (answers_at_once request)
      (ap (λ (added : List Entry). length (arrivals_in added)) (added_own events event id own)
      ∙ answers (state_after (requests_in (entries_of events id)) (starting_state events id)) request)

  outcome_noted : (n : ℕ) (value : _) (is_acknowledged : Bool) → IsAccepted (Event.Move other attempt (Frame.RunOutcome n value is_acknowledged) ∷ events)
      → noted_of (Event.Move other attempt (Frame.RunOutcome n value is_acknowledged) ∷ events) id
      ≡ noted_after_frame events id (Frame.RunOutcome n value is_acknowledged) (noted_of events id)
  outcome_noted n value is_acknowledged accepted =
      let event = Event.Move other attempt (Frame.RunOutcome n value is_acknowledged) in
      let was = was_open events event id accepted own refl in
      goes_on events event id refl was (taken_free events other attempt (Frame.RunOutcome n value is_acknowledged) id accepted own) refl (both_same (bytes_eq other id) None) refl true
      (open_own event events id refl own was) 1
      (ap (λ (added : List Entry). length (arrivals_in added)) (added_own events event id own))

  error_noted : (code : ℕ) (message : Text) (behavior : Behavior) (delay : Option ℕ) → IsAccepted (Event.Move other attempt (Frame.Error code message behavior delay) ∷ events)
      → noted_of (Event.Move other attempt (Frame.Error code message behavior delay) ∷ events) id
      ≡ noted_after_frame events id (Frame.Error code message behavior delay) (noted_of events id)
  error_noted code message behavior delay accepted =
      let frame = Frame.Error code message behavior delay in
      let event = Event.Move other attempt (Frame.Error code message behavior delay) in
      let was = was_open events event id accepted own refl in
      let zero : length (recorded_arrivals events id) + 0 ≡ length (recorded_arrivals events id) = omega arith in
      goes_on events event id refl was (taken_free events other attempt (Frame.Error code message behavior delay) id accepted own) refl (both_same (bytes_eq other id) None) refl
      (not (closes (version_of events id) (Frame.Error code message behavior delay))) (open_own event events id refl own was) 0
      (ap (λ (added : List Entry). length (arrivals_in added)) (added_own events event id own))
      ∙ (λ i. record { heard = heard_of events id; arrivals = zero i; is_awake = by_closes (closes (version_of events id) (Frame.Error code message behavior delay)) i })
    where
      by_closes : (b : Bool) → (if not b then is_awake_kept events id else false) ≡ (if b then false else is_awake_kept events id)
      by_closes true = refl
      by_closes false = refl

  end_noted : IsAccepted (Event.Move other attempt Frame.End ∷ events)
      → noted_of (Event.Move other attempt Frame.End ∷ events) id ≡ noted_after_frame events id Frame.End (noted_of events id)
  end_noted accepted =
      let event = Event.Move other attempt Frame.End in
      let was = was_open events event id accepted own refl in
      let zero : length (recorded_arrivals events id) + 0 ≡ length (recorded_arrivals events id) = omega arith in
      noted_now events event id refl false (Some (arrivals_heard events id)) (suspension_of events id) [] (open_own event events id refl own was)
      (heard_now events event id (Some (arrivals_heard events id)) refl (ap (λ (b : Bool). if b then Some (arrivals_heard events id) else None) own))
      (suspension_now events event id None refl refl)
      (ap (λ (added : List Entry). arrivals_in added) (added_own events event id own))
      ∙ (λ i. record { heard = Some (arrivals_heard events id); arrivals = zero i; is_awake = false })

  suspension_noted : (suspension : Option Suspension) → IsAccepted (Event.Move other attempt (Frame.Suspend suspension) ∷ events)
      → noted_of (Event.Move other attempt (Frame.Suspend suspension) ∷ events) id ≡ noted_after_frame events id (Frame.Suspend suspension) (noted_of events id)
  suspension_noted suspension accepted =
      let event = Event.Move other attempt (Frame.Suspend suspension) in
      let was = was_open events event id accepted own refl in
      let free = taken_free events other attempt (Frame.Suspend suspension) id accepted own in
      let zero : length (recorded_arrivals events id) + 0 ≡ length (recorded_arrivals events id) = omega arith in
      let none = append-nil (recorded_arrivals events id) in
      noted_now events event id refl true (Some (arrivals_heard events id)) suspension [] (open_own event events id refl own was)
      (heard_now events event id (Some (arrivals_heard events id)) refl (ap (λ (b : Bool). if b then Some (arrivals_heard events id) else None) own))
      (suspension_now events event id suspension refl (ap (λ (b : Bool). if b then suspension else None) own)
      ∙ ap (λ (o : Option Suspension). or_before suspension o) free ∙ as_is suspension)
      (ap (λ (added : List Entry). arrivals_in added) (added_own events event id own))
      ∙ (λ i. record { heard = Some (arrivals_heard events id); arrivals = zero i; is_awake = is_woken (drop (arrivals_heard events id) (none i)) suspension })
    where
      as_is : (o : Option Suspension) → or_before o None ≡ o
      as_is None = refl
      as_is (Some s) = refl

  frame_noted : (frame : Frame) → IsAccepted (Event.Move other attempt frame ∷ events) → noted_of (Event.Move other attempt frame ∷ events) id ≡ noted_after_frame events id frame (noted_of events id)
  frame_noted (Frame.Command request) accepted = command_noted request accepted
  frame_noted (Frame.RunOutcome n value is_acknowledged) accepted = outcome_noted n value is_acknowledged accepted
  frame_noted (Frame.Suspend suspension) accepted = suspension_noted suspension accepted
  frame_noted (Frame.Error code message behavior delay) accepted = error_noted code message behavior delay accepted
  frame_noted Frame.End accepted = end_noted accepted
  frame_noted (Frame.AwaitingOn awaited) accepted = noted_still events (Event.Move other attempt (Frame.AwaitingOn awaited)) id refl
  frame_noted Frame.Broken accepted = noted_still events (Event.Move other attempt Frame.Broken) id refl
  frame_noted Frame.TooDeep accepted = noted_still events (Event.Move other attempt Frame.TooDeep) id refl
  frame_noted Frame.NotAccepted accepted = noted_still events (Event.Move other attempt Frame.NotAccepted) id refl

begun_now : (events : List Event) (other : Text) (now : ℕ) (id : Text) → IsAccepted (Event.Begin other now ∷ events) → bytes_eq other id ≡ true
    → noted_of (Event.Begin other now ∷ events) id ≡ record (noted_of events id) { heard = None; is_awake = true }
begun_now events other now id accepted own =
    let event = Event.Begin other now in
    let was = was_open events event id accepted own refl in
    let zero : length (recorded_arrivals events id) + 0 ≡ length (recorded_arrivals events id) = omega arith in
    noted_now events event id refl true None None [] (open_own event events id refl own was) (heard_anew events event id own) (suspension_anew events event id own)
    (ap (λ (added : List Entry). arrivals_in added) (added_own events event id own))
    ∙ (λ i. record { heard = None; arrivals = zero i; is_awake = true })

one_arrives : (events : List Event) (event : Event) (id : Text) (new : Arrival) → IsAccepted (event ∷ events) → is_of id event ≡ true → invoked_by event ≡ None → frame_of event ≡ None
    → begins id event ≡ false → begins_attempt id event ≡ false → heard_in events id event ≡ None → suspension_in id event ≡ None
    → entries_of_event (starting_state events id) (entries_of events id) event ≡ Arrived new ∷ []
    → noted_of (event ∷ events) id ≡ after_arrivals events id (new ∷ []) (noted_of events id)
one_arrives events event id new accepted own fresh plain old going tells waits adds =
    let was = was_open events event id accepted own fresh in
    arrives events event id old accepted.1 was going tells waits
    (open_own event events id old own was ∙ ap (λ (o : Option Frame). not (closes_in (version_of events id) o)) plain) (new ∷ [])
    (ap (λ (added : List Entry). arrivals_in added) (added_own events event id own ∙ adds))

pub noted_follows : NotedFollows
noted_follows events (Event.Invoke new) id accepted own fresh = cc
noted_follows events (Event.Tick now) id accepted own fresh = absurd (true≢false (sym own))
noted_follows events (Event.Edit object request) id accepted own fresh = absurd (true≢false (sym own))
noted_follows events (Event.Result other n result) id accepted own fresh =
    one_arrives events (Event.Result other n result) id (completion n result) accepted own refl refl refl refl refl refl refl
noted_follows events (Event.Signal other key result) id accepted own fresh =
    one_arrives events (Event.Signal other key result) id (record { id = id_of_signal key; result = result }) accepted own refl refl refl refl refl refl refl
noted_follows events (Event.Cancel other) id accepted own fresh =
    one_arrives events (Event.Cancel other) id (record { id = cancel_id; result = NotificationResult.Void }) accepted own refl refl refl refl refl refl refl
noted_follows events (Event.Begin other now) id accepted own fresh = begun_now events other now id accepted own
noted_follows events (Event.Move other attempt frame) id accepted own fresh = frame_noted events id other attempt own frame accepted
noted_follows events (Event.Feed other attempt most) id accepted own fresh = noted_still events (Event.Feed other attempt most) id refl
noted_follows events (Event.Close other attempt) id accepted own fresh = noted_still events (Event.Close other attempt) id refl
noted_follows events (Event.Stop other attempt) id accepted own fresh = noted_still events (Event.Stop other attempt) id refl
