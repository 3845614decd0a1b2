-- What each event does that tells nothing of an attempt keeps an invocation in its run.
use Rattle.std.proofs.Common.{◌≡◌, ℕ, ◌<◌, ◌^◌, Bool, true, false, true≢false, ◌&&◌, List, [], ◌∷◌, length, Err, ◌⊎◌, Option, Some, None, is_some, bytes_eq, refl, sym, ap, subst, ◌∙◌, inl, inr}
use Rattle.std.proofs.lemmas.Slice.Eq.{bytes_eq-Decides}
use Rattle.journal_model.specs.declared.invocation.NewInvocation.{NewInvocation}
use Rattle.journal_model.specs.declared.notification.NotificationResult.{NotificationResult}
use Rattle.journal_model.specs.Notification.{Bytes, Text}
use Rattle.journal_model.specs.declared.notification.SignalKey.{SignalKey}
use Rattle.journal_model.specs.Event.{Event}
use Rattle.journal_model.specs.Journal.{is_of, invocation_begun, completion}
use Rattle.journal_model.specs.Attempt.{live_attempt, is_input_closed, is_live}
use Rattle.journal_model.specs.Cause.{causes_of, tests_of, IsAccepted}
use Rattle.journal_model.specs.Run.{Handler}
use Rattle.journal_laws.proofs.ObjectState.{tail_of, holds-head, holds-tail, not-false}
use Rattle.vm_types.specs.declared.options.VMOptions.{VMOptions}
use Rattle.store_refusals.specs.declared.refusal.Refusal.{Refusal}
use Rattle.store_refusals.specs.declared.refusal.Refusal.TheVariants.{OutOfMemory}
use Rattle.store_calls.specs.AbstractStore.{Standing, StaysStanding, Adds}
use Rattle.store_calls.specs.declared.begun.BegunAttempt.{BegunAttempt}
use Rattle.store_calls.specs.Calls.{Invokes, CompletesCall, Signals, Cancels, Ticks, BeginsStoredAttempt, BeginsAttempt, Stops}
use Rattle.store_calls.specs.Frames.{LeavesRefused, Rests, TakesEach}
use Rattle.store_calls.proofs.Live.{live_when}
use Rattle.store_calls.proofs.Taking.{bytes_stay}
use Rattle.schedule_model.specs.ArgumentBounds.{ResultFits, signal_arrival}
use Rattle.store_steps.specs.PreparedFrames.{lies_in_frame}
use Rattle.vm_attempt_laws.specs.TurnReports.{Told}
use Rattle.schedule_laws.specs.TrackedAttempt.{Tracked}
use Rattle.schedule_laws.specs.InvocationInRun.{FollowsWhere, FollowsTold, ToldOf}
use Rattle.schedule_laws.proofs.Advancing.{gathered}
use Rattle.schedule_laws.proofs.Beginning.{made, unheld}
use Rattle.schedule_laws.proofs.Events.{IsPlain, where_on}
use Rattle.schedule_laws.proofs.Fits.{apart}
use Rattle.schedule_laws.proofs.InvocationInRun.{same_held}
use Rattle.schedule_laws.proofs.Moving.{stopped, rested, moved}
use Rattle.schedule_laws.proofs.Others.{into, stands_still, other_on}
use Rattle.schedule_laws.proofs.Schedules.{with_same, some_none, held_with, held_other_invocation}
use Rattle.schedule_laws.proofs.Serving.{ServingLaws}
use Rattle.schedule_laws.proofs.Taking.{ComesAsTold, comes_behind, nothing_comes, took_as_told, took_each}
use Rattle.schedule_laws.specs.Attempts.{Gathers, Attempt}
use Rattle.schedule_laws.specs.Schedules.event
use Rattle.schedule_laws.specs.Schedules.reply
use Rattle.schedule_laws.specs.Schedules.refusal
use Rattle.schedule_laws.specs.Schedules.{Reply, HeldAttempt, with_first, is_held, held_of, with_attempt, RepliesDone, RepliesPlace, RepliesCount, HandsOutEach, StopsHandingOut, StopsOne, MovesOne, FitsEvent}

never : (b : Bool) → (b && false) ≡ false
never true = refl
never false = refl

-- an attempt that is handed bytes, or whose input is closed, is live
pub handed_live : (events : List Event) (id : Text) (n most : ℕ) → causes_of events (Event.Feed id n most) ≡ [] → live_attempt events id ≡ Some n
handed_live events id n most causes =
    let tests = tests_of events (Event.Feed id n most) in
    live_when events id n (not-false (is_live events id n) (holds-head (tail_of (tail_of tests)) (holds-tail (tail_of tests) (holds-tail tests causes))))

pub closed_live : (events : List Event) (id : Text) (n : ℕ) → causes_of events (Event.Close id n) ≡ [] → live_attempt events id ≡ Some n
closed_live events id n causes =
    let tests = tests_of events (Event.Close id n) in
    live_when events id n (not-false (is_live events id n) (holds-head (tail_of (tail_of tests)) (holds-tail (tail_of tests) (holds-tail tests causes))))

-- and the input of one that is handed bytes was not closed
pub handed_open : (events : List Event) (id : Text) (n most : ℕ) → causes_of events (Event.Feed id n most) ≡ [] → is_input_closed events id ≡ false
handed_open events id n most causes =
    let tests = tests_of events (Event.Feed id n most) in
    holds-head (tail_of (tail_of (tail_of tests))) (holds-tail (tail_of (tail_of tests)) (holds-tail (tail_of tests) (holds-tail tests causes)))

-- of a live attempt something waits
pub some_waits : (o : Option Bytes) (l : Option ℕ) (n : ℕ) → is_some o ≡ is_some l → l ≡ Some n → (waits : Bytes) × (o ≡ Some waits)
some_waits (Some waits) l n same is = (waits, refl)
some_waits None l n same is = absurd (true≢false (sym (same ∙ ap is_some is)))

module _ {H : Type 0} (function : H → Handler) (next : Handler) (options : VMOptions) (id : Text) (laws : ServingLaws function next options) (told : ToldOf) where
  abbrev In : Standing → List (HeldAttempt H) → Type 0
  In s held = FollowsTold function next options id told s held

  pub same_state : (s t : Standing) (held more : List (HeldAttempt H)) → StaysStanding s t → more ≡ held → In s held → In t more
  same_state s t held more stays same f = subst (λ (hs : List (HeldAttempt H)). In t hs) (sym same) (stands_still function next options id told s t held stays f)

  -- ---- a result, a signal, a cancellation and a tick

  complete_plain : (other : Text) (n : ℕ) (value : NotificationResult) → IsPlain id (Event.Result other n value)
  complete_plain other n value = record { old = refl; going = refl; asks = refl; closes = never (is_of id (Event.Result other n value)) }

  completed : (other : Text) (n : ℕ) (value : NotificationResult) (s t : Standing) (held : List (HeldAttempt H)) → ResultFits (completion n value) → Adds (Event.Result other n value) s t → In s held → In t held
  completed other n value s t held fits adds f =
      let accepted : IsAccepted (Event.Result other n value ∷ s.events) = subst IsAccepted adds.events t.accepted in
      into function next options id told t (Event.Result other n value ∷ s.events) (s.outputs id) held adds.events (adds.outputs id)
      (where_on function next options id (Event.Result other n value) s.events (complete_plain other n value) accepted.0 accepted.1 (λ same. fits) tt laws told (s.outputs id) (s.outputs id) held
      (λ frames. refl) (λ now is. is) f)

  signal_plain : (other : Text) (key : SignalKey) (value : NotificationResult) → IsPlain id (Event.Signal other key value)
  signal_plain other key value = record { old = refl; going = refl; asks = refl; closes = never (is_of id (Event.Signal other key value)) }

  signalled : (other : Text) (key : SignalKey) (value : NotificationResult) (s t : Standing) (held : List (HeldAttempt H)) → ResultFits (signal_arrival key value) → Adds (Event.Signal other key value) s t → In s held → In t held
  signalled other key value s t held fits adds f =
      let accepted : IsAccepted (Event.Signal other key value ∷ s.events) = subst IsAccepted adds.events t.accepted in
      into function next options id told t (Event.Signal other key value ∷ s.events) (s.outputs id) held adds.events (adds.outputs id)
      (where_on function next options id (Event.Signal other key value) s.events (signal_plain other key value) accepted.0 accepted.1 (λ same. fits) tt laws told (s.outputs id) (s.outputs id) held
      (λ frames. refl) (λ now is. is) f)

  cancel_plain : (other : Text) → IsPlain id (Event.Cancel other)
  cancel_plain other = record { old = refl; going = refl; asks = refl; closes = never (is_of id (Event.Cancel other)) }

  cancelled : (other : Text) (s t : Standing) (held : List (HeldAttempt H)) → Adds (Event.Cancel other) s t → In s held → In t held
  cancelled other s t held adds f =
      let accepted : IsAccepted (Event.Cancel other ∷ s.events) = subst IsAccepted adds.events t.accepted in
      into function next options id told t (Event.Cancel other ∷ s.events) (s.outputs id) held adds.events (adds.outputs id)
      (where_on function next options id (Event.Cancel other) s.events (cancel_plain other) accepted.0 accepted.1 tt tt laws told (s.outputs id) (s.outputs id) held
      (λ frames. refl) (λ now is. is) f)

  ticked : (now : ℕ) (s t : Standing) (held : List (HeldAttempt H)) → Adds (Event.Tick now) s t → In s held → In t held
  ticked now s t held adds f = other_on function next options id told laws (Event.Tick now) s t held refl adds.events (adds.outputs id) f

  -- ---- what is done with an attempt that is held

  -- with one of another invocation
  pub other_changed : (one : HeldAttempt H) (changed : Attempt H) (t : Standing) (held : List (HeldAttempt H)) → held_of held one.invocation one.number ≡ Some one → bytes_eq one.invocation id ≡ false
      → In t held → In t (with_attempt held one changed)
  other_changed one changed t held there far f =
      same_held function next options id told t.events (t.outputs id) held (with_attempt held one changed) (invocation_begun t.events id)
      (λ m. held_other_invocation one.invocation id one.number m held one (record one { attempt = changed }) there refl (λ same. apart one.invocation id far (sym same))) f

  -- what is asked of one of this invocation, whose id is written so
  abbrev Own : HeldAttempt H → Attempt H → Standing → Standing → List (HeldAttempt H) → Text → Type 0
  Own one changed s t held x = held_of held x one.number ≡ Some one → In t (with_first (is_held x one.number) held (record one { attempt = changed }))

  -- nothing has changed but how its output stands
  gathered_own : (one : HeldAttempt H) (changed : Attempt H) (s t : Standing) (held : List (HeldAttempt H)) → StaysStanding s t → Gathers one.attempt changed → In s held → Own one changed s t held id
  gathered_own one changed s t held stays gathers f there =
      stands_still function next options id told s t (with_first (is_held id one.number) held (record one { attempt = changed })) stays (by_begun (invocation_begun s.events id) f)
    where
      by_begun : (o : Option NewInvocation) → FollowsWhere function next options id told s.events (s.outputs id) held o
          → FollowsWhere function next options id told s.events (s.outputs id) (with_first (is_held id one.number) held (record one { attempt = changed })) o
      by_begun None f = some_none (sym there ∙ (f one.number).0)
      by_begun (Some new) f = gathered function next options id laws told s.events held new one.number one changed s.accepted there (s.outputs id) gathers f

  -- by whether it is of this invocation
  by_invocation : (one : HeldAttempt H) (changed : Attempt H) (s t : Standing) (held : List (HeldAttempt H)) → held_of held one.invocation one.number ≡ Some one
      → (one.invocation ≡ id → Own one changed s t held id) → (bytes_eq one.invocation id ≡ false → In t held) → In t (with_attempt held one changed)
  by_invocation one changed s t held there own others = by_id (bytes_eq one.invocation id) refl
    where
      by_id : (b : Bool) → bytes_eq one.invocation id ≡ b → In t (with_attempt held one changed)
      by_id true e =
          let same : one.invocation ≡ id = (bytes_eq-Decides one.invocation id).0 e in
          subst (λ (x : Text). Own one changed s t held x) (sym same) (own same) there
      by_id false e = other_changed one changed t held there e (others e)

  -- an attempt that was not changed
  pub unchanged : (one : HeldAttempt H) (attempt : Attempt H) (s t : Standing) (held : List (HeldAttempt H)) → held_of held one.invocation one.number ≡ Some one → attempt ≡ one.attempt
      → StaysStanding s t → In s held → In t (with_attempt held one attempt)
  unchanged one attempt s t held there same stays f =
      same_state s t held (with_attempt held one attempt) stays (ap (λ (a : Attempt H). with_attempt held one a) same ∙ with_same (is_held one.invocation one.number) held one there) f

  -- ---- what is answered

  pub kept_invoke : (one : NewInvocation) (answer : Reply) (s t : Standing) (held : List (HeldAttempt H)) → FitsEvent {H = H} (event.Invoke one) → RepliesDone (λ result. Invokes one result s t) answer → In s held → In t held
  kept_invoke one reply.Done s t held fits d f = made function next options id laws told one s t held fits d f
  kept_invoke one (reply.Refused (refusal.Store why)) s t held fits d f = stands_still function next options id told s t held d.stays f
  kept_invoke one _ s t held fits d f = absurd d

  pub kept_result : (other : Text) (n : ℕ) (value : NotificationResult) (answer : Reply) (s t : Standing) (held : List (HeldAttempt H)) → ResultFits (completion n value)
      → RepliesPlace (λ result. CompletesCall other n value result s t) answer → In s held → In t held
  kept_result other n value (reply.Placed place) s t held fits d f = completed other n value s t held fits d.1 f
  kept_result other n value (reply.Refused (refusal.Store why)) s t held fits d f = stands_still function next options id told s t held d.stays f
  kept_result other n value _ s t held fits d f = absurd d

  pub kept_signal : (other : Text) (key : SignalKey) (value : NotificationResult) (answer : Reply) (s t : Standing) (held : List (HeldAttempt H)) → ResultFits (signal_arrival key value)
      → RepliesPlace (λ result. Signals other key value result s t) answer → In s held → In t held
  kept_signal other key value (reply.Placed place) s t held fits d f = signalled other key value s t held fits d.1 f
  kept_signal other key value (reply.Refused (refusal.Store why)) s t held fits d f = stands_still function next options id told s t held d.stays f
  kept_signal other key value _ s t held fits d f = absurd d

  pub kept_cancel : (other : Text) (answer : Reply) (s t : Standing) (held : List (HeldAttempt H)) → RepliesPlace (λ result. Cancels other result s t) answer → In s held → In t held
  kept_cancel other (reply.Placed place) s t held d f = cancelled other s t held d.1 f
  kept_cancel other (reply.Refused (refusal.Store why)) s t held d f = stands_still function next options id told s t held d.stays f
  kept_cancel other _ s t held d f = absurd d

  pub kept_tick : (now : ℕ) (answer : Reply) (s t : Standing) (held : List (HeldAttempt H)) → RepliesCount (λ result. Ticks now result s t) answer → In s held → In t held
  kept_tick now (reply.Ticked count) s t held d f = ticked now s t held d.1 f
  kept_tick now (reply.Refused (refusal.Store why)) s t held d f = stands_still function next options id told s t held d.stays f
  kept_tick now _ s t held d f = absurd d

  kept_done : (other : Text) (n : ℕ) (answer : Reply) (s t : Standing) (held : List (HeldAttempt H)) → RepliesDone (λ result. Stops other n result s t) answer → In s held → In t held
  kept_done other n reply.Done s t held d f = stopped function next options id told laws other n s t held d f
  kept_done other n (reply.Refused (refusal.Store why)) s t held d f = stands_still function next options id told s t held d.stays f
  kept_done other n _ s t held d f = absurd d

  pub kept_stop : (one : HeldAttempt H) (answer : Reply) (s t : Standing) (held : List (HeldAttempt H)) (changed : Attempt H) → held_of held one.invocation one.number ≡ Some one
      → StopsOne one s answer t changed → In s held → In t (with_attempt held one changed)
  kept_stop one answer s t held changed there d f =
      subst (λ (hs : List (HeldAttempt H)). In t hs) (sym (ap (λ (a : Attempt H). with_attempt held one a) d.1 ∙ with_same (is_held one.invocation one.number) held one there))
      (kept_done one.invocation one.number answer s t held d.0 f)

  -- a begin whose attempt is not held
  pub kept_refused : (other : Text) (now : ℕ) (why : Refusal) (s t : Standing) (held more : List (HeldAttempt H)) → now < 2 ^ 64
      → (BeginsAttempt other now (Err why) s t × (more ≡ held)) ⊎ ((begun : BegunAttempt) × (why ≡ OutOfMemory) × BeginsStoredAttempt other now begun s t × (more ≡ held)) → In s held → In t more
  kept_refused other now why s t held more moment d f =
      elim d [
        | inl r ↦ same_state s t held more r.0.stays r.1 f
        | inr u ↦ subst (λ (hs : List (HeldAttempt H)). In t hs) (sym u.3) (unheld function next options id laws told other now u.0 s t held moment u.2 f)
      ]

  -- parts of its input go to one of another invocation
  pub kept_parts : (other : Text) (n count : ℕ) (parts : List Bytes) (s t : Standing) (held : List (HeldAttempt H)) → bytes_eq other id ≡ false → HandsOutEach other n count parts s t → In s held → In t held
  kept_parts other n count [] s t held far hands f = subst (λ (m : Standing). In m held) (sym hands) f
  kept_parts other n count (last ∷ earlier) s t held far hands f =
      other_on function next options id told laws (Event.Feed other n (length last)) hands.0 t held far hands.3.1.events (hands.3.1.outputs id) (kept_parts other n count earlier s hands.0 held far hands.1 f)

  -- then no further one does
  pub kept_stopped : (other : Text) (n count : ℕ) (parts : List Bytes) (why : Option Refusal) (s t : Standing) (held : List (HeldAttempt H)) → StopsHandingOut other n count parts why s t → In s held → In t held
  kept_stopped other n count parts None s t held stops f = subst (λ (m : Standing). In m held) (sym stops.1) f
  kept_stopped other n count parts (Some why) s t held stops f = stands_still function next options id told s t held stops.2.stays f

  pub kept_move : (count : ℕ) (one : HeldAttempt H) (answer : Reply) (s t : Standing) (held : List (HeldAttempt H)) (changed : Attempt H) → held_of held one.invocation one.number ≡ Some one
      → MovesOne count one s answer t changed → In s held → In t (with_attempt held one changed)
  kept_move count one (reply.Moved bytes frames why) s t held changed there d f =
      let put = d.3 in
      let now : HeldAttempt H = record one { attempt = changed } in
      let more : List (HeldAttempt H) = with_attempt held one changed in
      let here : held_of more one.invocation one.number ≡ Some now = held_with one.invocation one.number held one now there refl refl in
      rested function next options id told laws one.invocation one.number why put.2.between t more put.2.rests
      (took_each function next options id told laws one.invocation one.number now d.0 put.0 put.2.between more here put.2.taken
      (moved function next options id told laws one bytes changed s put.0 held there put.1 d.4 f))
  kept_move count one (reply.Refused (refusal.Store why)) s t held changed there d f =
      let stays : StaysStanding s t = bytes_stay (is_live s.events one.invocation one.number) one.invocation one.number why s t d.0 in
      by_invocation one changed s t held there (λ same. gathered_own one changed s t held stays d.1 f) (λ far. stands_still function next options id told s t held stays f)
  kept_move count one _ s t held changed there d f = absurd d

  -- what no further frame is taken for brings no frame
  refused_comes : (b : Bool) (n : ℕ) (all : Told) (s t : Standing) → LeavesRefused b id n s t → ComesAsTold all s.events t.events
  refused_comes true n all s t left = record { added = Event.Stop id n ∷ []; more = left.events; as_told = (tt, tt) }
  refused_comes false n all s t stays = nothing_comes all s.events t.events stays.events

  rests_come : (n : ℕ) (why : Option Refusal) (all : Told) (s t : Standing) → Rests id n why s t → ComesAsTold all s.events t.events
  rests_come n None all s t (inl ended) = nothing_comes all s.events t.events ended.stays.events
  rests_come n None all s t (inr none) = nothing_comes all s.events t.events none.stays.events
  rests_come n (Some why) all s t (inl room) = nothing_comes all s.events t.events room.stays.events
  rests_come n (Some why) all s t (inr r) = refused_comes (lies_in_frame why) n all s t r.left

  -- the frames that are taken say what was told of their attempt
  pub moved_as_told : (count bytes frames : ℕ) (why : Option Refusal) (one : HeldAttempt H) (changed : Attempt H) (s t : Standing) (held : List (HeldAttempt H)) → held_of held one.invocation one.number ≡ Some one
      → one.invocation ≡ id → (tracked : Tracked) → told one.number ≡ Some tracked → MovesOne count one s (reply.Moved bytes frames why) t changed → In s held → ComesAsTold tracked.told s.events t.events
  moved_as_told count bytes frames why one changed s t held there same tracked is_told d f =
      let put = d.3 in
      let now : HeldAttempt H = record one { attempt = changed } in
      let more : List (HeldAttempt H) = with_attempt held one changed in
      let here : held_of more one.invocation one.number ≡ Some now = held_with one.invocation one.number held one now there refl refl in
      let pushed = moved function next options id told laws one bytes changed s put.0 held there put.1 d.4 f in
      comes_behind tracked.told s.events put.0.events t.events (nothing_comes tracked.told s.events put.0.events put.1.events)
      (comes_behind tracked.told put.0.events put.2.between.events t.events
      (took_as_told function next options id told laws one.number now d.0 put.0 put.2.between more tracked (ap (λ (x : Text). held_of more x one.number) (sym same) ∙ here) is_told
      (subst (λ (x : Text). TakesEach x one.number d.0 put.0 put.2.between) same put.2.taken) pushed)
      (rests_come one.number why tracked.told put.2.between t (subst (λ (x : Text). Rests x one.number why put.2.between t) same put.2.rests)))
