-- A suspended invocation is due where the run over all its arrivals goes past its await, and under the premises of exactness only there.
use Rattle.std.proofs.Common.{ℕ, ◌≡◌, refl, sym, ap, subst, ◌∙◌, Bool, true, false, true≢false, not, ◌&&◌, if◌then◌else◌, List, [], ◌∷◌, ◌++◌, append-nil, Option, Some, None, is_some, bytes_eq}
use Rattle.std.specs.List.{list_any}
use Rattle.std.proofs.lemmas.List.{take-append-drop}
use Rattle.std.proofs.lemmas.Slice.Eq.{bytes_eq-Decides}
use Rattle.journal_model.specs.Notification.{Text, Arrival, same_id, cancel_id}
use Rattle.journal_model.specs.Request.{Request}
use Rattle.journal_model.specs.Run.{Handler, Invocation}
use Rattle.journal_model.specs.Event.{Event, Frame, Suspension}
use Rattle.journal_model.specs.Journal.{begins, is_of, is_open, invocation_begun, requests_in, recorded_requests, recorded_arrivals}
use Rattle.journal_model.specs.Attempt.{begins_attempt, bytes_asked, ends_live, live_attempt, is_live, input_pieces, bytes_handed, arrivals_within, arrivals_not_handed, suspension_in, or_before, suspension_of, is_woken, is_none, is_due}
use Rattle.journal_model.specs.Cause.{own_tests, causes_of, IsAccepted}
use Rattle.journal_model.specs.declared.cause.Cause.{Cause}
use Rattle.journal_model.specs.Headline.{GoesPast, NeverLate, WakesExactly, AwaitsIds, arrivals_handed}
use Rattle.journal_laws.proofs.ObjectState.{holds-head, not-false, open_when_accepted, begun_before}
use Rattle.journal_laws.proofs.Leaving.{and-true}
use Rattle.run_laws.specs.SuspensionContent.{WaitsAll}
use Rattle.run_laws.specs.TakenFrames.{TakesOfRun, AllOfRun}
use Rattle.run_laws.specs.HeldInvocations.{StillWaits}
use Rattle.input_laws.proofs.Events.{added_by, requests_now, no_request, nothing_added, not_begun, unborn_open}
use Rattle.input_laws.proofs.Handed.{other_begins, other_asks, handed_same}
use Rattle.input_laws.proofs.LiveAttempts.{numbered, own_hold, taken_live, none_live, live_now}
use Rattle.run_laws.proofs.Past.{both_true, woken_past, past_woken}

-- ---- the suspension of the last attempt

not_live : (events : List Event) (id : Text) (attempt : ℕ) → live_attempt events id ≡ None → is_live events id attempt ≡ true → ⊥
not_live events id attempt none live = true≢false (sym (numbered events id attempt live) ∙ ap is_some none)

handed_live : (events : List Event) (id : Text) (attempt most : ℕ) → causes_of events (Event.Feed id attempt most) ≡ [] → is_live events id attempt ≡ true
handed_live events id attempt most causes =
    not-false (is_live events id attempt)
    (holds-head (own_tests events (Event.Feed id attempt most))
    (own_hold (not (is_some (invocation_begun events id))) (is_some (invocation_begun events id) && not (is_open events id)) Cause.UnknownInvocation Cause.InvocationClosed
    (own_tests events (Event.Feed id attempt most)) causes))

stopped_live : (events : List Event) (id : Text) (attempt : ℕ) → causes_of events (Event.Stop id attempt) ≡ [] → is_live events id attempt ≡ true
stopped_live events id attempt causes =
    not-false (is_live events id attempt)
    (holds-head (own_tests events (Event.Stop id attempt))
    (own_hold (not (is_some (invocation_begun events id))) (is_some (invocation_begun events id) && not (is_open events id)) Cause.UnknownInvocation Cause.InvocationClosed
    (own_tests events (Event.Stop id attempt)) causes))

other_suspends : (event : Event) (id : Text) → is_of id event ≡ false → suspension_in id event ≡ None
other_suspends (Event.Move other attempt (Frame.Suspend suspension)) id e = rw e refl
other_suspends _ id e = refl

still_unsuspended : (event : Event) (earlier : List Event) (id : Text) → invocation_begun earlier id ≡ None → (is_of id event ≡ true → is_open earlier id ≡ true)
    → suspension_of earlier id ≡ None → suspension_of (event ∷ earlier) id ≡ None
still_unsuspended event earlier id unborn opened later = by_cases (is_of id event) refl
  where
    by_cases : (b : Bool) → is_of id event ≡ b → suspension_of (event ∷ earlier) id ≡ None
    by_cases true f = absurd (true≢false (sym (opened f) ∙ unborn_open earlier id unborn))
    by_cases false f = rw (other_begins event id f, other_suspends event id f, later) refl

unborn_unsuspended : (events : List Event) → IsAccepted events → (id : Text) → invocation_begun events id ≡ None → suspension_of events id ≡ None
unborn_unsuspended [] accepted id e = refl
unborn_unsuspended (Event.Invoke new ∷ earlier) accepted id e = by_cases (bytes_eq new.id id) e (unborn_unsuspended earlier accepted.1 id)
  where
    by_cases : (b : Bool) → (if b then Some new else invocation_begun earlier id) ≡ None → (invocation_begun earlier id ≡ None → suspension_of earlier id ≡ None) → suspension_of earlier id ≡ None
    by_cases true e later = cc
    by_cases false e later = later e
unborn_unsuspended (event ∷ earlier) accepted id e =
    still_unsuspended event earlier id (sym (begun_before event earlier id refl) ∙ e) (λ f. open_when_accepted earlier event id refl f accepted.0)
    (unborn_unsuspended earlier accepted.1 id (sym (begun_before event earlier id refl) ∙ e))

module _ (next : Handler) (given : Invocation) (id : Text) where
  waits_kept : (event : Event) (events : List Event) (suspension : Option Suspension) → IsAccepted events → begins id event ≡ false → begins_attempt id event ≡ false → bytes_asked id event ≡ None
      → requests_in (added_by events id event) ≡ [] → WaitsAll next given (arrivals_handed events id) (recorded_requests events id) suspension
      → WaitsAll next given (arrivals_handed (event ∷ events) id) (recorded_requests (event ∷ events) id) suspension
  waits_kept event events suspension accepted old going asks adds waits =
      subst (λ (arrivals : List Arrival). WaitsAll next given arrivals (recorded_requests (event ∷ events) id) suspension) (sym (handed_same events event id accepted old going asks))
      (subst (λ (requests : List Request). WaitsAll next given (arrivals_handed events id) requests suspension)
      (sym (requests_now event events id old ∙ ap (λ (more : List Request). recorded_requests events id ++ more) adds ∙ append-nil (recorded_requests events id))) waits)

  still_kept : (event : Event) (events : List Event) (suspension : Suspension) → IsAccepted events → begins id event ≡ false → begins_attempt id event ≡ false → bytes_asked id event ≡ None
      → requests_in (added_by events id event) ≡ [] → (is_of id event && ends_live event) ≡ false → StillWaits next given id events suspension → StillWaits next given id (event ∷ events) suspension
  still_kept event events suspension accepted old going asks adds ends still = record {
    over = live_now event events id going ends ∙ still.over;
    waits = waits_kept event events (Some suspension) accepted old going asks adds still.waits;
  }

  never : (b : Bool) → (b && false) ≡ false
  never true = refl
  never false = refl

  other_still : (event : Event) (events : List Event) (suspension : Suspension) → IsAccepted events → begins id event ≡ false → is_of id event ≡ false
      → StillWaits next given id events suspension → StillWaits next given id (event ∷ events) suspension
  other_still event events suspension accepted old f =
      still_kept event events suspension accepted old (other_begins event id f) (other_asks event id f) (quiet event f) (ap (λ (b : Bool). b && ends_live event) f)
    where
      quiet : (event : Event) → is_of id event ≡ false → requests_in (added_by events id event) ≡ []
      quiet (Event.Tick now) f = no_request events id (Event.Tick now) refl
      quiet event f = ap requests_in (nothing_added events id event f refl)

  -- an event of a live attempt is none of this invocation, of which no attempt is live
  still_dead : (event : Event) (events : List Event) (suspension : Suspension) → IsAccepted events → begins id event ≡ false → (other : Text) (attempt : ℕ) → is_live events other attempt ≡ true
      → is_of id event ≡ bytes_eq other id → StillWaits next given id events suspension → StillWaits next given id (event ∷ events) suspension
  still_dead event events suspension accepted old other attempt live of still = by_id (bytes_eq other id) refl
    where
      by_id : (b : Bool) → bytes_eq other id ≡ b → StillWaits next given id (event ∷ events) suspension
      by_id true f = absurd (not_live events id attempt still.over (subst (λ (x : Text). is_live events x attempt ≡ true) ((bytes_eq-Decides other id).0 f) live))
      by_id false f = other_still event events suspension accepted old (of ∙ f) still

  no_suspension : (suspension : Suspension) → ◌≡◌ {A = Option Suspension} None (Some suspension) → ⊥
  no_suspension suspension e = cc

  -- an event that is none of a live attempt
  pub still_step : (event : Event) (events : List Event) (suspension : Suspension) → IsAccepted (event ∷ events) → TakesOfRun next given id events event
      → suspension_of (event ∷ events) id ≡ Some suspension → (suspension_of events id ≡ Some suspension → StillWaits next given id events suspension) → StillWaits next given id (event ∷ events) suspension
  still_step (Event.Invoke new) events suspension accepted of_run e before = by_id (bytes_eq new.id id) refl
    where
      by_id : (b : Bool) → bytes_eq new.id id ≡ b → StillWaits next given id (Event.Invoke new ∷ events) suspension
      by_id true f = absurd (no_suspension suspension (sym (unborn_unsuspended events accepted.1 id (not_begun (Event.Invoke new) events id accepted f)) ∙ e))
      by_id false f = other_still (Event.Invoke new) events suspension accepted.1 f f (before e)
  still_step (Event.Begin other now) events suspension accepted of_run e before = by_id (bytes_eq other id) refl e
    where
      by_id : (b : Bool) → bytes_eq other id ≡ b → (if b then None else suspension_of events id) ≡ Some suspension → StillWaits next given id (Event.Begin other now ∷ events) suspension
      by_id true f e = absurd (no_suspension suspension e)
      by_id false f e = other_still (Event.Begin other now) events suspension accepted.1 refl f (before e)
  still_step (Event.Move other attempt (Frame.Suspend told)) events suspension accepted of_run e before = by_id (bytes_eq other id) refl e
    where
      by_told : (told : Option Suspension) → other ≡ id → bytes_eq other id ≡ true → WaitsAll next given (arrivals_handed events id) (recorded_requests events id) told
          → or_before told (suspension_of events id) ≡ Some suspension → StillWaits next given id (Event.Move other attempt (Frame.Suspend told) ∷ events) suspension
      by_told None same f waits e = absurd waits.tells
      by_told (Some it) same f waits e =
          let is : it ≡ suspension = cc in record {
            over = none_live (Event.Move other attempt (Frame.Suspend (Some it))) events id refl (ap (λ (b : Bool). b && true) f);
            waits =
                waits_kept (Event.Move other attempt (Frame.Suspend (Some it))) events (Some suspension) accepted.1 refl refl refl
                (no_request events id (Event.Move other attempt (Frame.Suspend (Some it))) refl)
                (subst (λ (s : Suspension). WaitsAll next given (arrivals_handed events id) (recorded_requests events id) (Some s)) is waits);
          }

      by_id : (b : Bool) → bytes_eq other id ≡ b → or_before (if b then told else None) (suspension_of events id) ≡ Some suspension → StillWaits next given id (Event.Move other attempt (Frame.Suspend told) ∷ events) suspension
      by_id true f e = by_told told ((bytes_eq-Decides other id).0 f) f (of_run ((bytes_eq-Decides other id).0 f)) e
      by_id false f e = other_still (Event.Move other attempt (Frame.Suspend told)) events suspension accepted.1 refl f (before e)
  still_step (Event.Move other attempt frame) events suspension accepted of_run e before =
      still_dead (Event.Move other attempt frame) events suspension accepted.1 refl other attempt (taken_live events other attempt frame accepted.0) refl (before e)
  still_step (Event.Feed other attempt most) events suspension accepted of_run e before =
      still_dead (Event.Feed other attempt most) events suspension accepted.1 refl other attempt (handed_live events other attempt most accepted.0) refl (before e)
  still_step (Event.Stop other attempt) events suspension accepted of_run e before =
      still_dead (Event.Stop other attempt) events suspension accepted.1 refl other attempt (stopped_live events other attempt accepted.0) refl (before e)
  still_step event events suspension accepted of_run e before =
      still_kept event events suspension accepted.1 refl refl refl (no_request events id event refl) (never (is_of id event)) (before e)

  pub still_waits : (events : List Event) → IsAccepted events → AllOfRun next given id events → (suspension : Suspension) → suspension_of events id ≡ Some suspension → StillWaits next given id events suspension
  still_waits [] accepted of_run suspension e = absurd (no_suspension suspension e)
  still_waits (event ∷ events) accepted of_run suspension e =
      still_step event events suspension accepted of_run.0 e (λ f. still_waits events accepted.1 of_run.1 suspension f)

-- ---- waking

module _ (next : Handler) (given : Invocation) (events : List Event) (id : Text) (all_wait : (suspension : Suspension) → suspension_of events id ≡ Some suspension → StillWaits next given id events suspension) where
  abbrev count_handed : ℕ
  count_handed = arrivals_within (input_pieces events id) (bytes_handed events id)

  all_is : arrivals_handed events id ++ arrivals_not_handed events id ≡ recorded_arrivals events id
  all_is = take-append-drop count_handed (recorded_arrivals events id)

  some_suspension : (o : Option Suspension) → is_some o ≡ true → (suspension : Suspension) × (o ≡ Some suspension)
  some_suspension None e = absurd (true≢false (sym e))
  some_suspension (Some suspension) e = (suspension, refl)

  pub never_late : NeverLate next given events id
  never_late suspended past =
      let (suspension, is) = some_suspension (suspension_of events id) suspended.suspended in
      let woken : is_woken (arrivals_not_handed events id) (suspension_of events id) ≡ true =
      ap (is_woken (arrivals_not_handed events id)) is
      ∙ woken_past next given (arrivals_handed events id) (arrivals_not_handed events id) (recorded_requests events id) suspension (all_wait suspension is).waits
      (subst (λ (all : List Arrival). GoesPast next given (arrivals_handed events id) all) (sym all_is) past) in
      both_true (is_open events id) (is_none (live_attempt events id) && is_woken (arrivals_not_handed events id) (suspension_of events id)) suspended.open_still
      (both_true (is_none (live_attempt events id)) (is_woken (arrivals_not_handed events id) (suspension_of events id)) (ap is_none suspended.not_live) woken)

  pub wakes_exactly : WakesExactly next given events id
  wakes_exactly suspended high stands none = (due_past, never_late suspended)
    where
      due_past : is_due events id ≡ true → GoesPast next given (arrivals_handed events id) (recorded_arrivals events id)
      due_past due =
          let (suspension, is) = some_suspension (suspension_of events id) suspended.suspended in
          let w = (all_wait suspension is).waits in
          let rest = (and-true (is_open events id) (is_none (live_attempt events id) && is_woken (arrivals_not_handed events id) (suspension_of events id)) due).1 in
          let woken : is_woken (arrivals_not_handed events id) (Some suspension) ≡ true =
          sym (ap (is_woken (arrivals_not_handed events id)) is) ∙ (and-true (is_none (live_attempt events id)) (is_woken (arrivals_not_handed events id) (suspension_of events id)) rest).1 in
          subst (λ (all : List Arrival). GoesPast next given (arrivals_handed events id) all) all_is
          (past_woken next given (arrivals_handed events id) (arrivals_not_handed events id) (recorded_requests events id) suspension w high (subst AwaitsIds w.waits (stands w.calls))
          (subst (λ (all : List Arrival). list_any (λ (arrival : Arrival). same_id arrival.id cancel_id) all ≡ false) (sym all_is) none) woken)
