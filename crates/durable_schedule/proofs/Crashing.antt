-- An event that was refused for a cause, and a move that took no frame: what a crash leaves of it is what is left.
use Rattle.std.proofs.Common.{◌≡◌, ◌∙◌, sym, subst, ℕ, inl, inr, refl, arith, Bool, true, false, length, take, List, [], ◌∷◌, Option, Some, None, Ok}
use Rattle.sqlite.specs.State.{State, HasCleanDisk}
use Rattle.journal_model.specs.Notification.{Bytes, Text}
use Rattle.journal_model.specs.declared.notification.SignalKey.{SignalKey}
use Rattle.journal_model.specs.declared.invocation.NewInvocation.{NewInvocation}
use Rattle.journal_model.specs.declared.notification.NotificationResult.{NotificationResult}
use Rattle.journal_model.specs.Event.{Event as Accepted}
use Rattle.journal_model.specs.Attempt.{is_live}
use Rattle.journal_model.specs.Run.{Handler}
use Rattle.vm_types.specs.declared.options.VMOptions.{VMOptions}
use Rattle.store_refusals.specs.declared.refusal.Refusal.{Refusal}
use Rattle.store_steps.specs.declared.frame.FrameReply.{FrameReply}
use Rattle.store_calls.specs.AbstractStore.{Standing}
use Rattle.store_calls.specs.Calls.{Invokes, CompletesCall, Signals, Cancels, Ticks, RefusesBytes}
use Rattle.store_calls.specs.Frames.{Accepts}
use Rattle.store_calls.proofs.Taking.{bytes_stay}
use Rattle.schedule_laws.specs.Attempts.{Attempt, output_of}
use Rattle.schedule_laws.specs.Schedules.event
use Rattle.schedule_laws.specs.Schedules.reply
use Rattle.schedule_laws.specs.Schedules.refusal
use Rattle.schedule_laws.specs.Schedules.{Event, Reply, HeldAttempt, Scheduled, held_of, RepliesDone, RepliesPlace, RepliesCount, BeginDoes, IfHeld, MovesOne, Applies}
use Rattle.scheduler.specs.SchedulerCalls.{AppliesWith}
use Rattle.durable_schedule.specs.Runs.{IsCertain, AreCertain}
use Rattle.durable_schedule.proofs.Quieting.{KeepsAsWell, same_kept}
use Rattle.durable_schedule.proofs.Refusing.{AddsAtMost, not_memory, refused_kept, untaken_kept, untaken_late}

-- ---- what each call accepts at most

invoked_at_most : (one : NewInvocation) (answer : Reply) (s t : Standing) → RepliesDone (λ result. Invokes one result s t) answer → AddsAtMost (Accepted.Invoke one) s t
invoked_at_most one reply.Done s t it = inr it.events
invoked_at_most one (reply.Refused (refusal.Store why)) s t it = inl it.stays.events
invoked_at_most one _ s t it = absurd it

completed_at_most : (id : Text) (n : ℕ) (value : NotificationResult) (answer : Reply) (s t : Standing) → RepliesPlace (λ result. CompletesCall id n value result s t) answer
    → AddsAtMost (Accepted.Result id n value) s t
completed_at_most id n value (reply.Placed place) s t it = inr it.1.events
completed_at_most id n value (reply.Refused (refusal.Store why)) s t it = inl it.stays.events
completed_at_most id n value _ s t it = absurd it

signalled_at_most : (id : Text) (key : SignalKey) (value : NotificationResult) (answer : Reply) (s t : Standing) → RepliesPlace (λ result. Signals id key value result s t) answer
    → AddsAtMost (Accepted.Signal id key value) s t
signalled_at_most id key value (reply.Placed place) s t it = inr it.1.events
signalled_at_most id key value (reply.Refused (refusal.Store why)) s t it = inl it.stays.events
signalled_at_most id key value _ s t it = absurd it

cancelled_at_most : (id : Text) (answer : Reply) (s t : Standing) → RepliesPlace (λ result. Cancels id result s t) answer → AddsAtMost (Accepted.Cancel id) s t
cancelled_at_most id (reply.Placed place) s t it = inr it.1.events
cancelled_at_most id (reply.Refused (refusal.Store why)) s t it = inl it.stays.events
cancelled_at_most id _ s t it = absurd it

ticked_at_most : (now : ℕ) (answer : Reply) (s t : Standing) → RepliesCount (λ result. Ticks now result s t) answer → AddsAtMost (Accepted.Tick now) s t
ticked_at_most now (reply.Ticked count) s t it = inr it.1.events
ticked_at_most now (reply.Refused (refusal.Store why)) s t it = inl it.stays.events
ticked_at_most now _ s t it = absurd it

begun_at_most : {H : Type 0} (options : VMOptions) (id : Text) (handler : H) (now : ℕ) (answer : Reply) (s t : Standing) (held more : List (HeldAttempt H))
    → BeginDoes options id handler now s held answer t more → AddsAtMost (Accepted.Begin id now) s t
begun_at_most options id handler now (reply.Begun number) s t held more it = inr it.2.leaves.events
begun_at_most options id handler now (reply.Refused (refusal.Store why)) s t held more (inl refused) = inl refused.0.stays.events
begun_at_most options id handler now (reply.Refused (refusal.Store why)) s t held more (inr begun) = inr begun.2.leaves.events
begun_at_most options id handler now _ s t held more it = absurd it

-- ---- moves

none_of : {A : Type 0} (xs : List A) → 0 ≡ length xs → xs ≡ []
none_of [] e = refl
none_of (x ∷ xs) e = absurd (omega (arith, e))

-- a move is answered that it moved bytes, or refused
abbrev pub IsOfMove : Reply → Type 0
IsOfMove (reply.Moved bytes frames why) = Unit {0}
IsOfMove (reply.Refused why) = Unit {0}
IsOfMove _ = ⊥

module _ {H : Type 0} (count : ℕ) (s t : Standing) where
  of_one : (one : HeldAttempt H) (answer : Reply) (changed : Attempt H) → MovesOne count one s answer t changed → IsOfMove answer
  of_one one (reply.Moved bytes frames why) changed it = tt
  of_one one (reply.Refused why) changed it = tt
  of_one one _ changed it = absurd it

  pub move_replies : (o : Option (HeldAttempt H)) (held more : List (HeldAttempt H)) (answer : Reply) → IfHeld (MovesOne count) o s held answer t more → IsOfMove answer
  move_replies None held more answer it = subst IsOfMove (sym it.0) tt
  move_replies (Some one) held more answer it = of_one one answer it.0 it.1

  pub unheld_kept : (o : Option (HeldAttempt H)) (held more : List (HeldAttempt H)) → IfHeld (MovesOne count) o s held (reply.Refused refusal.AttemptNotHeld) t more → KeepsAsWell s t
  unheld_kept None held more it = same_kept s t it.1.events
  unheld_kept (Some one) held more it = absurd it.1

  -- it tells of no mismatch, which lies in the outcome of a turn
  pub move_matches : (o : Option (HeldAttempt H)) (held more : List (HeldAttempt H)) → IfHeld (MovesOne count) o s held (reply.Refused refusal.JournalMismatchOutcome) t more → ⊥
  move_matches None held more it = let e : reply.Refused refusal.JournalMismatchOutcome ≡ reply.Refused refusal.AttemptNotHeld = it.0 in cc
  move_matches (Some one) held more it = it.1

module _ (database : State) (clean : HasCleanDisk database) where
  -- bytes of an attempt that is not live are refused, and no others but for a circumstance
  bytes_late : (live : Bool) (id : Text) (n : ℕ) (bytes : Bytes) (why : Refusal) (replies : List FrameReply) (other : Option Refusal) (s to t : Standing) → IsCertain why
      → is_live s.events id n ≡ live → RefusesBytes live id n why s to → Accepts id n bytes (Ok (replies, other)) s t → ⊥
  bytes_late true id n bytes why replies other s to t certain live it late = not_memory why certain it.0
  bytes_late false id n bytes why replies other s to t certain live it late = let e : true ≡ false = sym late.1.live ∙ live in cc

  module _ {H : Type 0} (count : ℕ) (one : HeldAttempt H) (s to t : Standing) where
    -- what a crash leaves of bytes that were refused
    refused_late : (why : Refusal) (answer : Reply) (changed left : Attempt H) → IsCertain why → MovesOne count one s (reply.Refused (refusal.Store why)) to changed → MovesOne count one s answer t left
        → KeepsAsWell t to
    refused_late why (reply.Refused (refusal.Store other)) changed left certain it late =
        same_kept t to ((bytes_stay (is_live s.events one.invocation one.number) one.invocation one.number why s to it.0).events
        ∙ sym (bytes_stay (is_live s.events one.invocation one.number) one.invocation one.number other s t late.0).events)
    refused_late why (reply.Moved bytes frames other) changed left certain it late =
        absurd (bytes_late (is_live s.events one.invocation one.number) one.invocation one.number (take bytes (output_of one.attempt)) why late.0 other s to t certain refl it.0 late.3)
    refused_late why _ changed left certain it late = absurd late

    bytes_kept : (why : Refusal) (changed : Attempt H) → MovesOne count one s (reply.Refused (refusal.Store why)) to changed → KeepsAsWell s to
    bytes_kept why changed it = same_kept s to (bytes_stay (is_live s.events one.invocation one.number) one.invocation one.number why s to it.0).events

    -- and of bytes among which no frame was taken
    none_taken : (bytes : ℕ) (why : Option Refusal) (changed : Attempt H) → MovesOne count one s (reply.Moved bytes 0 why) to changed
        → Accepts one.invocation one.number (take bytes (output_of one.attempt)) (Ok ([], why)) s to
    none_taken bytes why changed it =
        subst (λ (replies : List FrameReply). Accepts one.invocation one.number (take bytes (output_of one.attempt)) (Ok (replies, why)) s to) (none_of it.0 it.1) it.3

    none_kept : (bytes : ℕ) (why : Option Refusal) (changed : Attempt H) → AreCertain why → MovesOne count one s (reply.Moved bytes 0 why) to changed → KeepsAsWell s to
    none_kept bytes why changed certain it =
        untaken_kept database clean one.invocation one.number (take bytes (output_of one.attempt)) why s to certain (none_taken bytes why changed it)

    none_late : (bytes : ℕ) (why : Option Refusal) (answer : Reply) (changed left : Attempt H) → AreCertain why → MovesOne count one s (reply.Moved bytes 0 why) to changed → MovesOne count one s answer t left
        → KeepsAsWell t to
    none_late bytes why (reply.Refused (refusal.Store other)) changed left certain it late =
        λ trees kept. none_kept bytes why changed certain it trees
        (same_kept t s (sym (bytes_stay (is_live s.events one.invocation one.number) one.invocation one.number other s t late.0).events) trees kept)
    none_late bytes why (reply.Moved more frames other) changed left certain it late =
        untaken_late database clean one.invocation one.number (take bytes (output_of one.attempt)) why s to certain (none_taken bytes why changed it) late.0 other t
        (subst (λ (b : ℕ). Accepts one.invocation one.number (take b (output_of one.attempt)) (Ok (late.0, other)) s t) (late.2 ∙ sym it.2) late.3)
    none_late bytes why _ changed left certain it late = absurd late

  -- ---- one event

  module _ {H : Type 0} (function : H → Handler) (options : VMOptions) where
    -- Whatever tables keep of what stood before they keep of what stands then; and so do those that a crash leaves, whatever was answered.
    abbrev pub IsUnwritten : Event H → Reply → Type 0
    IsUnwritten one answer =
        (from to : Scheduled H) → Applies function options one answer from to
        → KeepsAsWell from.standing to.standing × ((t : Standing) → AppliesWith function options one from.held from.standing t → KeepsAsWell t to.standing)

    pub invoke_unwritten : (one : NewInvocation) (why : Refusal) → IsCertain why → IsUnwritten (event.Invoke one) (reply.Refused (refusal.Store why))
    invoke_unwritten one why certain from to it = (
      same_kept from.standing to.standing it.0.stays.events,
      λ t late. refused_kept (Accepted.Invoke one) why from.standing to.standing t certain it.0 (invoked_at_most one late.0 from.standing t late.2.0),
    )

    pub complete_unwritten : (id : Text) (n : ℕ) (value : NotificationResult) (why : Refusal) → IsCertain why → IsUnwritten (event.Result id n value) (reply.Refused (refusal.Store why))
    complete_unwritten id n value why certain from to it = (
      same_kept from.standing to.standing it.0.stays.events,
      λ t late. refused_kept (Accepted.Result id n value) why from.standing to.standing t certain it.0 (completed_at_most id n value late.0 from.standing t late.2.0),
    )

    pub signal_unwritten : (id : Text) (key : SignalKey) (value : NotificationResult) (why : Refusal) → IsCertain why → IsUnwritten (event.Signal id key value) (reply.Refused (refusal.Store why))
    signal_unwritten id key value why certain from to it = (
      same_kept from.standing to.standing it.0.stays.events,
      λ t late. refused_kept (Accepted.Signal id key value) why from.standing to.standing t certain it.0 (signalled_at_most id key value late.0 from.standing t late.2.0),
    )

    pub cancel_unwritten : (id : Text) (why : Refusal) → IsCertain why → IsUnwritten (event.Cancel id) (reply.Refused (refusal.Store why))
    cancel_unwritten id why certain from to it = (
      same_kept from.standing to.standing it.0.stays.events,
      λ t late. refused_kept (Accepted.Cancel id) why from.standing to.standing t certain it.0 (cancelled_at_most id late.0 from.standing t late.2.0),
    )

    pub tick_unwritten : (now : ℕ) (why : Refusal) → IsCertain why → IsUnwritten (event.Tick now) (reply.Refused (refusal.Store why))
    tick_unwritten now why certain from to it = (
      same_kept from.standing to.standing it.0.stays.events,
      λ t late. refused_kept (Accepted.Tick now) why from.standing to.standing t certain it.0 (ticked_at_most now late.0 from.standing t late.2.0),
    )

    pub begin_unwritten : (id : Text) (handler : H) (now : ℕ) (why : Refusal) → IsCertain why → IsUnwritten (event.Begin id handler now) (reply.Refused (refusal.Store why))
    begin_unwritten id handler now why certain from to (inl refused) = (
      same_kept from.standing to.standing refused.0.stays.events,
      λ t late. refused_kept (Accepted.Begin id now) why from.standing to.standing t certain refused.0 (begun_at_most options id handler now late.0 from.standing t from.held late.1 late.2),
    )
    begin_unwritten id handler now why certain from to (inr begun) = absurd (not_memory why certain begun.1)

    -- with one that is held, or none
    module _ (count : ℕ) (s to : Standing) (held more : List (HeldAttempt H)) where
      moves_late : (o : Option (HeldAttempt H)) (answer : Reply) → IfHeld (MovesOne count) o s held answer to more
          → ((one : HeldAttempt H) (changed : Attempt H) → MovesOne count one s answer to changed
          → KeepsAsWell s to × ((t : Standing) (other : Reply) (left : Attempt H) → MovesOne count one s other t left → KeepsAsWell t to))
          → KeepsAsWell s to × ((t : Standing) (other : Reply) (left : List (HeldAttempt H)) → IfHeld (MovesOne count) o s held other t left → KeepsAsWell t to)
      moves_late None answer it each = (same_kept s to it.1.events, λ t other left late. same_kept t to (it.1.events ∙ sym late.1.events))
      moves_late (Some one) answer it each = let both = each one it.0 it.1 in (both.0, λ t other left late. both.1 t other late.0 late.1)

    pub refused_unwritten : (id : Text) (n count : ℕ) (why : Refusal) → IsCertain why → IsUnwritten (event.Move id n count) (reply.Refused (refusal.Store why))
    refused_unwritten id n count why certain from to it =
        let both = moves_late count from.standing to.standing from.held to.held (held_of from.held id n) (reply.Refused (refusal.Store why)) it
        (λ one changed moves. (bytes_kept count one from.standing to.standing from.standing why changed moves, λ t other left late. refused_late count one from.standing to.standing t why other changed left certain moves late)) in
        (both.0, λ t late. both.1 t late.0 late.1 late.2)

    pub moved_unwritten : (id : Text) (n count bytes : ℕ) (why : Option Refusal) → AreCertain why → IsUnwritten (event.Move id n count) (reply.Moved bytes 0 why)
    moved_unwritten id n count bytes why certain from to it =
        let both = moves_late count from.standing to.standing from.held to.held (held_of from.held id n) (reply.Moved bytes 0 why) it
        (λ one changed moves. (none_kept count one from.standing to.standing from.standing bytes why changed certain moves, λ t other left late. none_late count one from.standing to.standing t bytes why other changed left certain moves late)) in
        (both.0, λ t late. both.1 t late.0 late.1 late.2)
