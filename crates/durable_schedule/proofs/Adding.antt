-- What is accepted of each event of a schedule is what its reply tells.
use Rattle.std.proofs.Common.{◌≡◌, refl, sym, ap, subst, ◌∙◌, ℕ, arith, Bool, true, false, ◌++◌, append_assoc, length, length-append, map, if◌then◌else◌, List, [], ◌∷◌, Option, Some, None, inl, inr}
use Rattle.std.proofs.lemmas.List.{append_cancel_right, map-append}
use Rattle.journal_model.specs.Notification.{Text}
use Rattle.journal_model.specs.declared.notification.SignalKey.{SignalKey}
use Rattle.journal_model.specs.declared.invocation.NewInvocation.{NewInvocation}
use Rattle.journal_model.specs.declared.notification.NotificationResult.{NotificationResult}
use Rattle.journal_model.specs.Run.{Handler}
use Rattle.journal_model.specs.Event.{Event, Frame}
use Rattle.journal_model.specs.Attempt.{is_live}
use Rattle.vm_types.specs.declared.options.VMOptions.{VMOptions}
use Rattle.store_refusals.specs.declared.refusal.Refusal.{Refusal}
use Rattle.store_steps.specs.declared.frame.FrameReply.{FrameReply}
use Rattle.store_steps.specs.PreparedFrames.{lies_in_frame}
use Rattle.store_calls.specs.AbstractStore.{Standing, StaysStanding}
use Rattle.store_calls.specs.Calls.{Cancels, CompletesCall, Invokes, Signals, Stops, Ticks}
use Rattle.store_calls.specs.Frames.{LeavesRefused, Rests, TakesEach}
use Rattle.store_calls.proofs.Taking.{bytes_stay}
use Rattle.schedule_laws.specs.Attempts.{RunOutcome, Attempt}
use Rattle.schedule_laws.proofs.Schedules.{found_is, held_is}
use Rattle.schedule_laws.specs.Schedules.scheduled
use Rattle.schedule_laws.specs.Schedules.event
use Rattle.schedule_laws.specs.Schedules.reply
use Rattle.schedule_laws.specs.Schedules.refusal
use Rattle.schedule_laws.specs.Schedules.{Reply, HeldAttempt, held_of, RepliesDone, RepliesPlace, RepliesCount, BeginDoes, FeedsOne, ClosesOne, StopsOne, TurnsOne, MovesOne, IfHeld, UnlessMismatch, tells_mismatch, Does, Scheduled}
use Rattle.durable_schedule.specs.Runs.{AppliesEach}
use Rattle.durable_schedule.specs.Front.{AreAcceptedOf, IsAcceptedOf}
use Rattle.durable_schedule.specs.MovedBytes.{stop_for}
use Rattle.durable_schedule.proofs.Feeding.{are_fed, parts_events, some_parts, stopped_events, sum_given}

-- these were accepted of the event, and put in front
abbrev pub Adds : {H : Type 0} → scheduled.Event H → Reply → Standing → Standing → Type 0
Adds one answer s t = (accepted : List Event) × IsAcceptedOf one answer s.events accepted × (t.events ≡ accepted ++ s.events)

-- ---- frames

-- so many frames of an attempt
abbrev TakesSome : Text → ℕ → (count : ℕ) → Standing → Standing → Type 0
TakesSome id n count s t = (taken : List Frame) × (length taken ≡ count) × (t.events ≡ map (Event.Move id n) taken ++ s.events)

each_taken : (id : Text) (n : ℕ) (replies : List FrameReply) (s t : Standing) → TakesEach id n replies s t → TakesSome id n (length replies) s t
each_taken id n [] s t it = ([], refl, it.events)
each_taken id n (first ∷ replies) s t it =
    let rest = each_taken id n replies it.0 t it.2 in
    let frame = it.1.frame in (
      rest.0 ++ frame ∷ [],
      omega (arith, rest.1, length-append rest.0 (frame ∷ [])),
      rest.2 ∙ ap (λ (events : List Event). map (Event.Move id n) rest.0 ++ events) it.1.leaves.events
          ∙ sym (append_assoc (map (Event.Move id n) rest.0) (Event.Move id n frame ∷ []) s.events)
          ∙ ap (λ (events : List Event). events ++ s.events) (sym (map-append (Event.Move id n) rest.0 (frame ∷ []))),
    )

refused_stop : (lies : Bool) (id : Text) (n : ℕ) (s t : Standing) → LeavesRefused lies id n s t → t.events ≡ (if lies then Event.Stop id n ∷ [] else []) ++ s.events
refused_stop true id n s t it = it.events
refused_stop false id n s t it = it.events

pub rests_stop : (id : Text) (n : ℕ) (why : Option Refusal) (s t : Standing) → Rests id n why s t → t.events ≡ stop_for id n why ++ s.events
rests_stop id n None s t it = elim it [ inl ended ↦ ended.stays.events | inr none ↦ none.stays.events ]
rests_stop id n (Some why) s t it = elim it [
  | inl room ↦ subst (λ (w : Refusal). t.events ≡ stop_for id n (Some w) ++ s.events) (sym room.memory) room.stays.events
  | inr refused ↦ refused_stop (lies_in_frame why) id n s t refused.left
]

-- ---- each event

module _ {H : Type 0} (function : H → Handler) (options : VMOptions) where
  invoke_adds : (one : NewInvocation) (answer : Reply) (s t : Standing) → RepliesDone (λ result. Invokes one result s t) answer → Adds {H = H} (event.Invoke one) answer s t
  invoke_adds one reply.Done s t it = (Event.Invoke one ∷ [], refl, it.events)
  invoke_adds one (reply.Refused (refusal.Store why)) s t it = ([], refl, it.stays.events)
  invoke_adds one _ s t it = absurd it

  complete_adds : (id : Text) (n : ℕ) (value : NotificationResult) (answer : Reply) (s t : Standing) → RepliesPlace (λ result. CompletesCall id n value result s t) answer
      → Adds {H = H} (event.Result id n value) answer s t
  complete_adds id n value (reply.Placed place) s t it = (Event.Result id n value ∷ [], (it.0, refl), it.1.events)
  complete_adds id n value (reply.Refused (refusal.Store why)) s t it = ([], refl, it.stays.events)
  complete_adds id n value _ s t it = absurd it

  signal_adds : (id : Text) (key : SignalKey) (value : NotificationResult) (answer : Reply) (s t : Standing) → RepliesPlace (λ result. Signals id key value result s t) answer
      → Adds {H = H} (event.Signal id key value) answer s t
  signal_adds id key value (reply.Placed place) s t it = (Event.Signal id key value ∷ [], (it.0, refl), it.1.events)
  signal_adds id key value (reply.Refused (refusal.Store why)) s t it = ([], refl, it.stays.events)
  signal_adds id key value _ s t it = absurd it

  cancel_adds : (id : Text) (answer : Reply) (s t : Standing) → RepliesPlace (λ result. Cancels id result s t) answer → Adds {H = H} (event.Cancel id) answer s t
  cancel_adds id (reply.Placed place) s t it = (Event.Cancel id ∷ [], (it.0, refl), it.1.events)
  cancel_adds id (reply.Refused (refusal.Store why)) s t it = ([], refl, it.stays.events)
  cancel_adds id _ s t it = absurd it

  tick_adds : (now : ℕ) (answer : Reply) (s t : Standing) → RepliesCount (λ result. Ticks now result s t) answer → Adds {H = H} (event.Tick now) answer s t
  tick_adds now (reply.Ticked count) s t it = (Event.Tick now ∷ [], (it.0, refl), it.1.events)
  tick_adds now (reply.Refused (refusal.Store why)) s t it = ([], refl, it.stays.events)
  tick_adds now _ s t it = absurd it

  stop_adds : (id : Text) (n : ℕ) (answer : Reply) (s t : Standing) → RepliesDone (λ result. Stops id n result s t) answer → Adds {H = H} (event.Stop id n) answer s t
  stop_adds id n reply.Done s t it = (Event.Stop id n ∷ [], refl, it.events)
  stop_adds id n (reply.Refused (refusal.Store why)) s t it = ([], refl, it.stays.events)
  stop_adds id n _ s t it = absurd it

  begin_adds : (id : Text) (handler : H) (now : ℕ) (s t : Standing) (held more : List (HeldAttempt H)) (answer : Reply) → BeginDoes options id handler now s held answer t more
      → Adds (event.Begin id handler now) answer s t
  begin_adds id handler now s t held more (reply.Begun n) it = (Event.Begin id now ∷ [], (it.1 ∙ it.2.number, refl), it.2.leaves.events)
  begin_adds id handler now s t held more (reply.Refused (refusal.Store why)) it = elim it [
    | inl none_made ↦ ([], inl refl, none_made.0.stays.events)
    | inr unheld ↦ (Event.Begin id now ∷ [], inr (ap (λ (w : Refusal). refusal.Store w) unheld.1, refl), unheld.2.leaves.events)
  ]
  begin_adds id handler now s t held more _ it = absurd it

  feed_adds : (count : ℕ) (one : HeldAttempt H) (s t : Standing) (answer : Reply) (changed : Attempt H) → FeedsOne count one s answer t changed
      → Adds {H = H} (event.Feed one.invocation one.number count) answer s t
  feed_adds count one s t (reply.Fed bytes why) changed it =
      let id = one.invocation in
      let n = one.number in
      let lengths : List ℕ = map length it.0 in (
        map (Event.Feed id n) lengths,
        (lengths, some_parts id n count it.0 why it.2.0 t it.2.3, sum_given it.0 ∙ sym it.1, are_fed id n count it.0 why bytes it.1 s it.2.0 t it.2.1 it.2.3, refl),
        stopped_events id n count it.0 why it.2.0 t it.2.3 ∙ parts_events id n count it.0 s it.2.0 it.2.1,
      )
  feed_adds count one s t (reply.Refused (refusal.Store why)) changed it = ([], refl, it.0.stays.events)
  feed_adds count one s t _ changed it = absurd it

  close_adds : (one : HeldAttempt H) (s t : Standing) (answer : Reply) (changed : Attempt H) → ClosesOne one s answer t changed → Adds {H = H} (event.Close one.invocation one.number) answer s t
  close_adds one s t reply.Done changed it = (Event.Close one.invocation one.number ∷ [], refl, it.0.events)
  close_adds one s t (reply.Refused (refusal.Store why)) changed it = ([], refl, it.0.stays.events)
  close_adds one s t _ changed it = absurd it

  turn_adds : (outcome : RunOutcome) (one : HeldAttempt H) (s t : Standing) (answer : Reply) (changed : Attempt H) → TurnsOne function outcome one s answer t changed
      → Adds {H = H} (event.Turn one.invocation one.number outcome) answer s t
  turn_adds outcome one s t (reply.Turned turn) changed it = ([], refl, it.1.events)
  turn_adds outcome one s t _ changed it = absurd it

  move_adds : (count : ℕ) (one : HeldAttempt H) (s t : Standing) (answer : Reply) (changed : Attempt H) → MovesOne count one s answer t changed
      → Adds {H = H} (event.Move one.invocation one.number count) answer s t
  move_adds count one s t (reply.Moved bytes frames why) changed it =
      let id = one.invocation in
      let n = one.number in
      let fed = it.3.0 in
      let frame = it.3.2 in
      let some = each_taken id n it.0 fed frame.between frame.taken in
      let takes = map (Event.Move id n) some.0 in (
        stop_for id n why ++ takes,
        (some.0, some.1 ∙ sym it.1, refl),
        rests_stop id n why frame.between t frame.rests
            ∙ ap (λ (events : List Event). stop_for id n why ++ events) (some.2 ∙ ap (λ (events : List Event). takes ++ events) it.3.1.events)
            ∙ sym (append_assoc (stop_for id n why) takes s.events),
      )
  move_adds count one s t (reply.Refused (refusal.Store why)) changed it =
      ([], refl, (bytes_stay (is_live s.events one.invocation one.number) one.invocation one.number why s t it.0).events)
  move_adds count one s t _ changed it = absurd it

  -- with one that is held, or none
  held_adds : (Named : Text → ℕ → scheduled.Event H) (Change : HeldAttempt H → Standing → Reply → Standing → Attempt H → Type 0) (id : Text) (n : ℕ) (s t : Standing)
      (held more : List (HeldAttempt H)) (answer : Reply) → (StaysStanding s t → Adds (Named id n) (reply.Refused refusal.AttemptNotHeld) s t)
      → ((one : HeldAttempt H) (changed : Attempt H) → Change one s answer t changed → Adds (Named one.invocation one.number) answer s t)
      → IfHeld Change (held_of held id n) s held answer t more → Adds (Named id n) answer s t
  held_adds Named Change id n s t held more answer none each it = by_held (held_of held id n) refl it
    where
      by_held : (o : Option (HeldAttempt H)) → held_of held id n ≡ o → IfHeld Change o s held answer t more → Adds (Named id n) answer s t
      by_held None is it = subst (λ (r : Reply). Adds (Named id n) r s t) (sym it.0) (none it.1)
      by_held (Some one) is it =
          let same = held_is id n one (found_is id n held one is) in
          subst (λ (other : ℕ). Adds (Named id other) answer s t) same.1 (subst (λ (other : Text). Adds (Named other one.number) answer s t) same.0 (each one it.0 it.1))

  -- a turn that is refused at once adds nothing
  turned_adds : (outcome : RunOutcome) (is_mismatch : Bool) (id : Text) (n : ℕ) (s t : Standing) (held more : List (HeldAttempt H)) (answer : Reply)
      → UnlessMismatch is_mismatch (TurnsOne function outcome) (held_of held id n) s held answer t more → Adds {H = H} (event.Turn id n outcome) answer s t
  turned_adds outcome true id n s t held more answer it = subst (λ (r : Reply). Adds {H = H} (event.Turn id n outcome) r s t) (sym it.0) ([], refl, it.1.events)
  turned_adds outcome false id n s t held more answer it =
      held_adds (λ id n. event.Turn id n outcome) (TurnsOne function outcome) id n s t held more answer (λ stays. ([], refl, stays.events)) (λ one. turn_adds outcome one s t answer) it

  pub does_add : (one : scheduled.Event H) (s t : Standing) (held more : List (HeldAttempt H)) (answer : Reply) → Does function options one s held answer t more → Adds one answer s t
  does_add (event.Invoke one) s t held more answer it = invoke_adds one answer s t it.0
  does_add (event.Result id n value) s t held more answer it = complete_adds id n value answer s t it.0
  does_add (event.Signal id key value) s t held more answer it = signal_adds id key value answer s t it.0
  does_add (event.Cancel id) s t held more answer it = cancel_adds id answer s t it.0
  does_add (event.Tick now) s t held more answer it = tick_adds now answer s t it.0
  does_add (event.Begin id handler now) s t held more answer it = begin_adds id handler now s t held more answer it
  does_add (event.Feed id n count) s t held more answer it =
      held_adds (λ id n. event.Feed id n count) (FeedsOne count) id n s t held more answer (λ stays. ([], refl, stays.events)) (λ one. feed_adds count one s t answer) it
  does_add (event.Close id n) s t held more answer it =
      held_adds (λ id n. event.Close id n) ClosesOne id n s t held more answer (λ stays. ([], refl, stays.events)) (λ one. close_adds one s t answer) it
  does_add (event.Turn id n outcome) s t held more answer it = turned_adds outcome (tells_mismatch outcome) id n s t held more answer it
  does_add (event.Move id n count) s t held more answer it =
      held_adds (λ id n. event.Move id n count) (MovesOne count) id n s t held more answer (λ stays. ([], refl, stays.events)) (λ one. move_adds count one s t answer) it
  does_add (event.Stop id n) s t held more answer it =
      held_adds (λ id n. event.Stop id n) StopsOne id n s t held more answer (λ stays. ([], refl, stays.events)) (λ one changed it. stop_adds one.invocation one.number answer s t it.0) it

  -- and so of all
  pub all_accepted : (asked : List (scheduled.Event H)) (replies : List Reply) (added : List (List Event)) (old new : Scheduled H) → AppliesEach function options asked replies added old new
      → AreAcceptedOf asked replies added old.standing.events new.standing.events
  all_accepted [] [] [] old new it = ap (λ (s : Scheduled H). s.standing.events) it
  all_accepted (one ∷ asked) (answer ∷ replies) (some ∷ added) old new it =
      let first = does_add one old.standing it.0.standing old.held it.0.held answer it.1 in
      let same : first.0 ≡ some = append_cancel_right first.0 some old.standing.events (sym first.2 ∙ it.2) in (
        subst (IsAcceptedOf one answer old.standing.events) same first.1,
        subst (λ (events : List Event). AreAcceptedOf asked replies added events new.standing.events) it.2 (all_accepted asked replies added it.0 new it.4),
      )
  all_accepted _ _ _ old new it = absurd it
