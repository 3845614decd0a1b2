-- A suspended attempt is not live, and was handed what is kept of it; so the flag tells whether its invocation is due.
use Rattle.std.proofs.Common.{ℕ, ◌≤◌, arith, ◌≡◌, refl, sym, ap, ap₂, subst, ◌∙◌, Bool, true, false, true≢false, not, ◌&&◌, if◌then◌else◌, List, [], ◌∷◌, length, length-append, drop, Option, Some, None, is_some, bytes_eq, ◌⊎◌, inl, inr}
use Rattle.std.proofs.lemmas.List.{drop-append-le}
use Rattle.std.proofs.lemmas.Slice.Eq.{bytes_eq-Decides}
use Rattle.journal_model.specs.Notification.{Text, Arrival}
use Rattle.journal_model.specs.Event.{Event, Frame, Suspension}
use Rattle.journal_model.specs.Journal.{begins, is_of, is_open, invocation_begun, starting_state, arrivals_in, recorded_arrivals}
use Rattle.journal_model.specs.Attempt.{Piece, begins_attempt, bytes_asked, handed_after, ends_live, live_attempt, is_live, input_pieces, input_bytes, bytes_handed, arrivals_within, arrivals_not_handed, suspension_in, or_before, suspension_of, is_woken, is_none}
use Rattle.journal_model.specs.Cause.{own_tests, causes_of, IsAccepted}
use Rattle.journal_model.specs.declared.cause.Cause.{Cause}
use Rattle.journal_laws.proofs.ObjectState.{holds-head, not-false}
use Rattle.input_laws.specs.ArrivalsRead.{arrivals_among}
use Rattle.input_laws.proofs.Events.{added_by, not_begun, arrivals_now}
use Rattle.input_laws.proofs.Handed.{within-more, within-among, counted, no_input, first_input, brought, brought_filled, pieces_now, handed_now, handed_within}
use Rattle.input_laws.proofs.LiveAttempts.{numbered, own_hold, none_live, live_now}
use Rattle.due_laws.specs.Awake.{arrivals_heard, heard_in, or_kept, heard_of, or_zero, not_heard, AwakeIsDue, HeardIsWithin}

-- ---- what an event hands out and tells

pub heard_same : (events : List Event) (event : Event) (id : Text) → begins id event ≡ false → begins_attempt id event ≡ false → bytes_asked id event ≡ None
    → arrivals_heard (event ∷ events) id ≡ arrivals_heard events id
heard_same events event id old going asks =
    ap₂ arrivals_within (pieces_now events event id old going)
    (handed_now events event id old going ∙ ap (λ (o : Option ℕ). handed_after o (bytes_handed events id) (length (input_bytes (input_pieces events id)))) asks)
    ∙ within-more (input_pieces events id) (brought events event id old going) (bytes_handed events id) (handed_within events id) (brought_filled events event id old going)

-- what is kept of it behind an event that begins no attempt
pub heard_now : (events : List Event) (event : Event) (id : Text) (o : Option ℕ) → begins_attempt id event ≡ false → heard_in events id event ≡ o
    → heard_of (event ∷ events) id ≡ or_kept o (heard_of events id)
heard_now events event id o going e =
    ap (λ (b : Bool). if b then None else or_kept (heard_in events id event) (heard_of events id)) going ∙ ap (λ (p : Option ℕ). or_kept p (heard_of events id)) e

pub heard_anew : (events : List Event) (event : Event) (id : Text) → begins_attempt id event ≡ true → heard_of (event ∷ events) id ≡ None
heard_anew events event id e = ap (λ (b : Bool). if b then None else or_kept (heard_in events id event) (heard_of events id)) e

-- a suspension of it ends its attempt, and tells what that was handed
pub record Suspends (events : List Event) (event : Event) (id : Text) : Type 0 where
  pub ends : (is_of id event && ends_live event) ≡ true
  pub tells : heard_in events id event ≡ Some (arrivals_heard events id)
  pub asks : bytes_asked id event ≡ None

suspends : (events : List Event) (event : Event) (id : Text) (s : Suspension) → suspension_in id event ≡ Some s → Suspends events event id
suspends events (Event.Move other attempt (Frame.Suspend suspension)) id s e = by_id (bytes_eq other id) refl e
  where
    by_id : (b : Bool) → bytes_eq other id ≡ b → (if b then suspension else None) ≡ Some s → Suspends events (Event.Move other attempt (Frame.Suspend suspension)) id
    by_id true f e = record { ends = rw f refl; tells = rw f refl; asks = refl }
    by_id false f e = cc
suspends events _ id s e = cc

-- what an event tells of it is what it was handed
pub tells : (events : List Event) (event : Event) (id : Text) → (heard_in events id event ≡ None) ⊎ (heard_in events id event ≡ Some (arrivals_heard events id))
tells events (Event.Move other attempt (Frame.Suspend suspension)) id = by_id (bytes_eq other id)
  where
    by_id : (b : Bool) → ((if b then Some (arrivals_heard events id) else None) ≡ None) ⊎ ((if b then Some (arrivals_heard events id) else None) ≡ Some (arrivals_heard events id))
    by_id true = inr refl
    by_id false = inl refl
tells events (Event.Move other attempt Frame.End) id = by_id (bytes_eq other id)
  where
    by_id : (b : Bool) → ((if b then Some (arrivals_heard events id) else None) ≡ None) ⊎ ((if b then Some (arrivals_heard events id) else None) ≡ Some (arrivals_heard events id))
    by_id true = inr refl
    by_id false = inl refl
tells events (Event.Move other attempt frame) id = by_id (bytes_eq other id)
  where
    by_id : (b : Bool) → (◌≡◌ {A = Option ℕ} (if b then None else None) None) ⊎ ((if b then None else None) ≡ Some (arrivals_heard events id))
    by_id true = inl refl
    by_id false = inl refl
tells events _ id = inl refl

-- ---- what is handed out is handed to a live attempt

pub handed_live : (events : List Event) (id : Text) (attempt most : ℕ) → causes_of events (Event.Feed id attempt most) ≡ [] → is_live events id attempt ≡ true
handed_live events id attempt most causes =
    not-false (is_live events id attempt)
    (holds-head (own_tests events (Event.Feed id attempt most))
    (own_hold (not (is_some (invocation_begun events id))) (is_some (invocation_begun events id) && not (is_open events id)) Cause.UnknownInvocation Cause.InvocationClosed
    (own_tests events (Event.Feed id attempt most)) causes))

asks_live : (events : List Event) (event : Event) (id : Text) → causes_of events event ≡ [] → (bytes_asked id event ≡ None) ⊎ (is_some (live_attempt events id) ≡ true)
asks_live events (Event.Feed other attempt most) id causes = by_id (bytes_eq other id) refl
  where
    by_id : (b : Bool) → bytes_eq other id ≡ b → ((if b then Some most else None) ≡ None) ⊎ (is_some (live_attempt events id) ≡ true)
    by_id true e =
        inr (subst (λ (x : Text). is_some (live_attempt events x) ≡ true) ((bytes_eq-Decides other id).0 e) (numbered events other attempt (handed_live events other attempt most causes)))
    by_id false e = inl refl
asks_live events _ id causes = inl refl

-- ---- a suspended attempt

pub record WasTold (events : List Event) (id : Text) : Type 0 where
  pub dead : live_attempt events id ≡ None
  pub heard : heard_of events id ≡ Some (arrivals_heard events id)

never : (b : Bool) → (b && false) ≡ false
never true = refl
never false = refl

module _ (events : List Event) (event : Event) (id : Text) (causes : causes_of events event ≡ []) (old : begins id event ≡ false) (s : Suspension) where
  told_anew : begins_attempt id event ≡ false → Suspends events event id → WasTold (event ∷ events) id
  told_anew going of = record {
    dead = none_live event events id going of.ends;
    heard = heard_now events event id (Some (arrivals_heard events id)) going of.tells ∙ ap Some (sym (heard_same events event id old going of.asks));
  }

  told_still : begins_attempt id event ≡ false → WasTold events id → WasTold (event ∷ events) id
  told_still going was = record {
    dead = by_end (is_of id event && ends_live event) refl;
    heard = by_tells (tells events event id) ∙ ap Some (sym (by_asked (asks_live events event id causes)));
  }
    where
      by_end : (b : Bool) → (is_of id event && ends_live event) ≡ b → live_attempt (event ∷ events) id ≡ None
      by_end true e = none_live event events id going e
      by_end false e = live_now event events id going e ∙ was.dead

      by_tells : (heard_in events id event ≡ None) ⊎ (heard_in events id event ≡ Some (arrivals_heard events id)) → heard_of (event ∷ events) id ≡ Some (arrivals_heard events id)
      by_tells (inl e) = heard_now events event id None going e ∙ was.heard
      by_tells (inr e) = heard_now events event id (Some (arrivals_heard events id)) going e

      by_asked : (bytes_asked id event ≡ None) ⊎ (is_some (live_attempt events id) ≡ true) → arrivals_heard (event ∷ events) id ≡ arrivals_heard events id
      by_asked (inl e) = heard_same events event id old going e
      by_asked (inr e) = absurd (true≢false (sym e ∙ ap is_some was.dead))

  told_step : suspension_of (event ∷ events) id ≡ Some s → (suspension_of events id ≡ Some s → WasTold events id) → WasTold (event ∷ events) id
  told_step e before = by_begin (begins_attempt id event) refl e
    where
      by_in : begins_attempt id event ≡ false → (o : Option Suspension) → suspension_in id event ≡ o → or_before o (suspension_of events id) ≡ Some s → WasTold (event ∷ events) id
      by_in going None f e = told_still going (before e)
      by_in going (Some it) f e = told_anew going (suspends events event id it f)

      by_begin : (b : Bool) → begins_attempt id event ≡ b → (if b then None else or_before (suspension_in id event) (suspension_of events id)) ≡ Some s → WasTold (event ∷ events) id
      by_begin true f e = cc
      by_begin false f e = by_in f (suspension_in id event) refl e

none_within : (pieces : List Piece) (count : ℕ) → pieces ≡ [] → arrivals_within pieces count ≡ 0
none_within pieces count e = ap (λ (some : List Piece). arrivals_within some count) e

pub was_told : (events : List Event) (id : Text) (s : Suspension) → IsAccepted events → suspension_of events id ≡ Some s → WasTold events id
was_told [] id s accepted e = cc
was_told (Event.Invoke new ∷ events) id s accepted e = by_id (bytes_eq new.id id) refl (was_told events id s accepted.1)
  where
    event : Event
    event = Event.Invoke new

    by_id : (b : Bool) → bytes_eq new.id id ≡ b → (suspension_of events id ≡ Some s → WasTold events id) → WasTold (Event.Invoke new ∷ events) id
    by_id true f before =
        let was = before e in record {
          dead = live_now (Event.Invoke new) events id refl (never (bytes_eq new.id id)) ∙ was.dead;
          heard =
              was.heard
              ∙ ap Some
              (none_within (input_pieces events id) (bytes_handed events id) (no_input (starting_state events id) events accepted.1 id (not_begun (Event.Invoke new) events id accepted f))
              ∙ sym (none_within (input_pieces (Event.Invoke new ∷ events) id) (bytes_handed (Event.Invoke new ∷ events) id) (first_input events (Event.Invoke new) id accepted f)));
        }
    by_id false f before = told_step events (Event.Invoke new) id accepted.0 f s e before
was_told (event ∷ events) id s accepted e = told_step events event id accepted.0 refl s e (was_told events id s accepted.1)

-- ---- so the flag tells

and_swaps : (a b c : Bool) → (a && (b && c)) ≡ ((a && c) && b)
and_swaps true true c = both c
  where
    both : (c : Bool) → c ≡ (c && true)
    both true = refl
    both false = refl
and_swaps true false c = both c
  where
    both : (c : Bool) → false ≡ (c && false)
    both true = refl
    both false = refl
and_swaps false b c = refl

pub awake_is_due : AwakeIsDue
awake_is_due events id accepted =
    ap (λ (woken : Bool). is_open events id && (is_none (live_attempt events id) && woken)) (by_suspension (suspension_of events id) refl)
    ∙ and_swaps (is_open events id) (is_none (live_attempt events id)) (is_woken (not_heard events id) (suspension_of events id))
  where
    by_suspension : (o : Option Suspension) → suspension_of events id ≡ o → is_woken (arrivals_not_handed events id) (suspension_of events id) ≡ is_woken (not_heard events id) (suspension_of events id)
    by_suspension None e = rw e refl
    by_suspension (Some s) e =
        ap (λ (n : Option ℕ). is_woken (drop (or_zero n) (recorded_arrivals events id)) (suspension_of events id)) (sym (was_told events id s accepted e).heard)

-- ---- no more was handed to an attempt than has come

pub heard_few : (events : List Event) (id : Text) → IsAccepted events → arrivals_heard events id ≤ length (recorded_arrivals events id)
heard_few events id accepted =
    subst (λ (n : ℕ). arrivals_heard events id ≤ n) (counted events accepted id) (within-among (input_pieces events id) (bytes_handed events id))

few_step : (events : List Event) (event : Event) (id : Text) → IsAccepted events → begins id event ≡ false
    → or_zero (heard_of events id) ≤ length (recorded_arrivals events id) → or_zero (heard_of (event ∷ events) id) ≤ length (recorded_arrivals (event ∷ events) id)
few_step events event id accepted old before = by_begin (begins_attempt id event) refl
  where
    grows : length (recorded_arrivals events id) ≤ length (recorded_arrivals (event ∷ events) id)
    grows =
        let all = ap (λ (arrivals : List Arrival). length arrivals) (arrivals_now event events id old) in
        let sum = length-append (recorded_arrivals events id) (arrivals_in (added_by events id event)) in
        omega (arith, all, sum)

    within : (n : ℕ) → n ≤ length (recorded_arrivals events id) → n ≤ length (recorded_arrivals (event ∷ events) id)
    within n few = let more = grows in omega (arith, few, more)

    few_as : (o : Option ℕ) → heard_of (event ∷ events) id ≡ o → or_zero o ≤ length (recorded_arrivals (event ∷ events) id)
        → or_zero (heard_of (event ∷ events) id) ≤ length (recorded_arrivals (event ∷ events) id)
    few_as o e few = subst (λ (p : Option ℕ). or_zero p ≤ length (recorded_arrivals (event ∷ events) id)) (sym e) few

    by_tells : begins_attempt id event ≡ false → (heard_in events id event ≡ None) ⊎ (heard_in events id event ≡ Some (arrivals_heard events id))
        → or_zero (heard_of (event ∷ events) id) ≤ length (recorded_arrivals (event ∷ events) id)
    by_tells f (inl e) = few_as (heard_of events id) (heard_now events event id None f e) (within (or_zero (heard_of events id)) before)
    by_tells f (inr e) = few_as (Some (arrivals_heard events id)) (heard_now events event id (Some (arrivals_heard events id)) f e) (within (arrivals_heard events id) (heard_few events id accepted))

    by_begin : (b : Bool) → begins_attempt id event ≡ b → or_zero (heard_of (event ∷ events) id) ≤ length (recorded_arrivals (event ∷ events) id)
    by_begin true f = few_as None (heard_anew events event id f) (omega arith)
    by_begin false f = by_tells f (tells events event id)

-- nothing has come of an invocation that was not begun
pub within_few : (events : List Event) (id : Text) → IsAccepted events → or_zero (heard_of events id) ≤ length (recorded_arrivals events id)
within_few [] id accepted = omega arith
within_few (Event.Invoke new ∷ events) id accepted = by_id (bytes_eq new.id id) refl (within_few events id accepted.1)
  where
    by_id : (b : Bool) → bytes_eq new.id id ≡ b → or_zero (heard_of events id) ≤ length (recorded_arrivals events id)
        → or_zero (heard_of events id) ≤ length (recorded_arrivals (Event.Invoke new ∷ events) id)
    by_id true f before =
        let none : arrivals_among (input_pieces events id) ≡ 0 =
        ap arrivals_among (no_input (starting_state events id) events accepted.1 id (not_begun (Event.Invoke new) events id accepted f)) in
        let all = counted events accepted.1 id in
        omega (arith, none, all, before)
    by_id false f before = few_step events (Event.Invoke new) id accepted.1 f before
within_few (event ∷ events) id accepted = few_step events event id accepted.1 refl (within_few events id accepted.1)

pub heard_is_within : HeardIsWithin
heard_is_within events id accepted more = drop-append-le (or_zero (heard_of events id)) (recorded_arrivals events id) more (within_few events id accepted)
