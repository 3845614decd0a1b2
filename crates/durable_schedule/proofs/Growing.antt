-- The accepted events stay, and more are put in front of them, each of the invocation that the event of the schedule names. A begin and a
-- feed alone add one that begins an attempt or hands bytes to one.
use Rattle.std.proofs.Common.{◌≡◌, refl, sym, ap, subst, ◌∙◌, ℕ, Bool, true, false, ◌++◌, append_assoc, length, take, List, [], ◌∷◌, Option, Some, None, inl, inr, Result, Ok, Err}
use Rattle.std.specs.List.{AllByRecursion}
use Rattle.journal_model.specs.Notification.{Bytes, Text}
use Rattle.journal_model.specs.declared.notification.SignalKey.{SignalKey}
use Rattle.journal_model.specs.declared.invocation.NewInvocation.{NewInvocation}
use Rattle.journal_model.specs.Run.{Handler}
use Rattle.journal_model.specs.declared.notification.NotificationResult.{NotificationResult}
use Rattle.journal_model.specs.Event.{Event}
use Rattle.journal_model.specs.Journal.{invocation_of}
use Rattle.journal_model.specs.Attempt.{is_live}
use Rattle.vm_types.specs.declared.options.VMOptions.{VMOptions}
use Rattle.store_refusals.specs.declared.refusal.Refusal.{Refusal}
use Rattle.schedule_laws.specs.Attempts.{Attempt, RunOutcome, output_of}
use Rattle.schedule_laws.proofs.Schedules.{found_is, held_is}
use Rattle.schedule_laws.specs.Schedules.scheduled
use Rattle.schedule_laws.specs.Schedules.event
use Rattle.schedule_laws.specs.Schedules.reply
use Rattle.schedule_laws.specs.Schedules.refusal
use Rattle.schedule_laws.specs.Schedules.{Reply, HeldAttempt, held_of, RepliesDone, RepliesPlace, RepliesCount, BeginDoes, FeedsOne, ClosesOne, StopsOne, TurnsOne, MovesOne, IfHeld, UnlessMismatch, tells_mismatch, HandsOutEach, Does, Scheduled, AppliesAll}
use Rattle.store_steps.specs.declared.frame.FrameReply.{FrameReply}
use Rattle.store_steps.specs.PreparedFrames.{lies_in_frame}
use Rattle.store_calls.specs.AbstractStore.{Standing, StaysStanding, Refuses}
use Rattle.store_calls.specs.Calls.{Cancels, CompletesCall, Invokes, Signals, Stops, Ticks}
use Rattle.store_calls.specs.Frames.{Accepts, LeavesRefused, Rests, TakesEach}
use Rattle.store_calls.proofs.Taking.{bytes_stay}
use Rattle.durable_schedule.specs.Runs.{AppliesEach, IsOneOf, invocation_named}
use Rattle.durable_schedule.proofs.Feeding.{stopped_events}

-- whether an accepted event begins an attempt, or hands bytes to one
abbrev pub does_hand : Event → Bool
does_hand (Event.Begin id now) = true
does_hand (Event.Feed id n most) = true
does_hand _ = false

-- the invocation that it is one of, and that
abbrev pub Kind : Type 0
Kind = Option Text × Bool

abbrev pub kind_of : Event → Kind
kind_of event = (invocation_of event, does_hand event)

abbrev pub IsOfKind : Kind → Event → Type 0
IsOfKind kind event = IsOneOf kind.0 event × (does_hand event ≡ kind.1)

-- so it is of the events that an event of a schedule adds
abbrev pub kind_named : {H : Type 0} → scheduled.Event H → Kind
kind_named (event.Begin id handler now) = (Some id, true)
kind_named (event.Feed id attempt count) = (Some id, true)
kind_named one = (invocation_named one, false)

both_are : (kind : Kind) (xs ys : List Event) → AllByRecursion (IsOfKind kind) xs → AllByRecursion (IsOfKind kind) ys → AllByRecursion (IsOfKind kind) (xs ++ ys)
both_are kind [] ys first second = second
both_are kind (x ∷ xs) ys first second = (first.0, both_are kind xs ys first.1 second)

-- the events of the one are the first of the other's
abbrev pub Grows : Standing → Standing → Type 0
Grows s t = (more : List Event) × (t.events ≡ more ++ s.events)

-- and the others are of this invocation, or of none
abbrev pub GrowsBy : Kind → Standing → Standing → Type 0
GrowsBy kind s t = (more : List Event) × (t.events ≡ more ++ s.events) × AllByRecursion (IsOfKind kind) more

grows_on : (kind : Kind) (s t u : Standing) → GrowsBy kind s t → GrowsBy kind t u → GrowsBy kind s u
grows_on kind s t u one two =
    (two.0 ++ one.0, two.1 ∙ ap (λ (events : List Event). two.0 ++ events) one.1 ∙ sym (append_assoc two.0 one.0 s.events), both_are kind two.0 one.0 two.2 one.2)

same_grows : (kind : Kind) (s t : Standing) → t.events ≡ s.events → GrowsBy kind s t
same_grows kind s t same = ([], same, tt)

more_grows : (s t : Standing) (last : Event) → IsOneOf (invocation_of last) last → t.events ≡ last ∷ s.events → GrowsBy (kind_of last) s t
more_grows s t last named more = (last ∷ [], more, ((named, refl), tt))

stays_grows : (kind : Kind) (s t : Standing) → StaysStanding s t → GrowsBy kind s t
stays_grows kind s t it = same_grows kind s t it.events

-- parts of an input that are handed out one after another
parts_grow : (id : Text) (n count : ℕ) (parts : List Bytes) (s t : Standing) → HandsOutEach id n count parts s t → GrowsBy (Some id, true) s t
parts_grow id n count [] s t it = same_grows (Some id, true) s t (ap (λ (m : Standing). m.events) it)
parts_grow id n count (last ∷ earlier) s t it =
    grows_on (Some id, true) s it.0 t (parts_grow id n count earlier s it.0 it.1) (more_grows it.0 t (Event.Feed id n (length last)) refl it.3.1.events)

each_grows : (id : Text) (n : ℕ) (replies : List FrameReply) (s t : Standing) → TakesEach id n replies s t → GrowsBy (Some id, false) s t
each_grows id n [] s t it = stays_grows (Some id, false) s t it
each_grows id n (first ∷ replies) s t it =
    grows_on (Some id, false) s it.0 t (more_grows s it.0 (Event.Move id n it.1.frame) refl it.1.leaves.events) (each_grows id n replies it.0 t it.2)

refused_grows : (b : Bool) (id : Text) (n : ℕ) (s t : Standing) → LeavesRefused b id n s t → GrowsBy (Some id, false) s t
refused_grows true id n s t it = more_grows s t (Event.Stop id n) refl it.events
refused_grows false id n s t it = stays_grows (Some id, false) s t it

rests_grow : (id : Text) (n : ℕ) (why : Option Refusal) (s t : Standing) → Rests id n why s t → GrowsBy (Some id, false) s t
rests_grow id n (Some why) s t it = elim it [ inl none ↦ stays_grows (Some id, false) s t none.stays | inr refused ↦ refused_grows (lies_in_frame why) id n s t refused.left ]
rests_grow id n None s t it = elim it [ inl ended ↦ stays_grows (Some id, false) s t ended.stays | inr none ↦ stays_grows (Some id, false) s t none.stays ]

accepts_grow : (id : Text) (n : ℕ) (bytes : Bytes) (taken : List FrameReply × Option Refusal) (s t : Standing) → Accepts id n bytes (Ok taken) s t → GrowsBy (Some id, false) s t
accepts_grow id n bytes taken s t it =
    grows_on (Some id, false) s it.0 t (same_grows (Some id, false) s it.0 it.1.events)
    (grows_on (Some id, false) it.0 it.2.between t (each_grows id n taken.0 it.0 it.2.between it.2.taken) (rests_grow id n taken.1 it.2.between t it.2.rests))

-- ---- what an event does

refuses_grows : (one : Event) (why : Refusal) (s t : Standing) → Refuses one why s t → GrowsBy (kind_of one) s t
refuses_grows one why s t it = same_grows (kind_of one) s t it.stays.events

done_grows : (Change : Result (Unit {0}) Refusal → Type 0) (kind : Kind) (answer : Reply) (s t : Standing) → ((result : Result (Unit {0}) Refusal) → Change result → GrowsBy kind s t) → RepliesDone Change answer → GrowsBy kind s t
done_grows Change kind reply.Done s t each it = each (Ok tt) it
done_grows Change kind (reply.Refused (refusal.Store why)) s t each it = each (Err why) it
done_grows Change kind _ s t each it = absurd it

place_grows : (Change : Result ℕ Refusal → Type 0) (kind : Kind) (answer : Reply) (s t : Standing) → ((result : Result ℕ Refusal) → Change result → GrowsBy kind s t) → RepliesPlace Change answer → GrowsBy kind s t
place_grows Change kind (reply.Placed place) s t each it = each (Ok place) it
place_grows Change kind (reply.Refused (refusal.Store why)) s t each it = each (Err why) it
place_grows Change kind _ s t each it = absurd it

count_grows : (Change : Result ℕ Refusal → Type 0) (kind : Kind) (answer : Reply) (s t : Standing) → ((result : Result ℕ Refusal) → Change result → GrowsBy kind s t) → RepliesCount Change answer → GrowsBy kind s t
count_grows Change kind (reply.Ticked count) s t each it = each (Ok count) it
count_grows Change kind (reply.Refused (refusal.Store why)) s t each it = each (Err why) it
count_grows Change kind _ s t each it = absurd it

complete_grows : (id : Text) (n : ℕ) (value : NotificationResult) (s t : Standing) (result : Result ℕ Refusal) → CompletesCall id n value result s t → GrowsBy (Some id, false) s t
complete_grows id n value s t (Ok place) it = more_grows s t (Event.Result id n value) refl it.1.events
complete_grows id n value s t (Err why) it = refuses_grows (Event.Result id n value) why s t it

signal_grows : (id : Text) (key : SignalKey) (value : NotificationResult) (s t : Standing) (result : Result ℕ Refusal) → Signals id key value result s t → GrowsBy (Some id, false) s t
signal_grows id key value s t (Ok place) it = more_grows s t (Event.Signal id key value) refl it.1.events
signal_grows id key value s t (Err why) it = refuses_grows (Event.Signal id key value) why s t it

cancel_grows : (id : Text) (s t : Standing) (result : Result ℕ Refusal) → Cancels id result s t → GrowsBy (Some id, false) s t
cancel_grows id s t (Ok place) it = more_grows s t (Event.Cancel id) refl it.1.events
cancel_grows id s t (Err why) it = refuses_grows (Event.Cancel id) why s t it

tick_grows : (now : ℕ) (s t : Standing) (result : Result ℕ Refusal) → Ticks now result s t → GrowsBy (None, false) s t
tick_grows now s t (Ok count) it = more_grows s t (Event.Tick now) refl it.1.events
tick_grows now s t (Err why) it = refuses_grows (Event.Tick now) why s t it

invoke_grows : (one : NewInvocation) (s t : Standing) (result : Result (Unit {0}) Refusal) → Invokes one result s t → GrowsBy (Some one.id, false) s t
invoke_grows one s t (Ok done) it = more_grows s t (Event.Invoke one) refl it.events
invoke_grows one s t (Err why) it = refuses_grows (Event.Invoke one) why s t it

stop_grows : (id : Text) (n : ℕ) (s t : Standing) (result : Result (Unit {0}) Refusal) → Stops id n result s t → GrowsBy (Some id, false) s t
stop_grows id n s t (Ok done) it = more_grows s t (Event.Stop id n) refl it.events
stop_grows id n s t (Err why) it = stays_grows (Some id, false) s t it.stays

module _ {H : Type 0} (function : H → Handler) (options : VMOptions) where
  begin_grows : (id : Text) (handler : H) (now : ℕ) (s t : Standing) (held more : List (HeldAttempt H)) (answer : Reply) → BeginDoes options id handler now s held answer t more → GrowsBy (Some id, true) s t
  begin_grows id handler now s t held more (reply.Begun n) it = more_grows s t (Event.Begin id now) refl it.2.leaves.events
  begin_grows id handler now s t held more (reply.Refused (refusal.Store why)) it = elim it [
    | inl none_made ↦ refuses_grows (Event.Begin id now) why s t none_made.0
    | inr unheld ↦ more_grows s t (Event.Begin id now) refl unheld.2.leaves.events
  ]
  begin_grows id handler now s t held more _ it = absurd it

  feed_grows : (count : ℕ) (one : HeldAttempt H) (s t : Standing) (answer : Reply) (changed : Attempt H) → FeedsOne count one s answer t changed → GrowsBy (Some one.invocation, true) s t
  feed_grows count one s t (reply.Fed n why) changed it =
      grows_on (Some one.invocation, true) s it.2.0 t (parts_grow one.invocation one.number count it.0 s it.2.0 it.2.1)
      (same_grows (Some one.invocation, true) it.2.0 t (stopped_events one.invocation one.number count it.0 why it.2.0 t it.2.3))
  feed_grows count one s t (reply.Refused (refusal.Store why)) changed it = refuses_grows (Event.Feed one.invocation one.number count) why s t it.0
  feed_grows count one s t _ changed it = absurd it

  close_grows : (one : HeldAttempt H) (s t : Standing) (answer : Reply) (changed : Attempt H) → ClosesOne one s answer t changed → GrowsBy (Some one.invocation, false) s t
  close_grows one s t reply.Done changed it = more_grows s t (Event.Close one.invocation one.number) refl it.0.events
  close_grows one s t (reply.Refused (refusal.Store why)) changed it = refuses_grows (Event.Close one.invocation one.number) why s t it.0
  close_grows one s t _ changed it = absurd it

  turn_grows : (outcome : RunOutcome) (one : HeldAttempt H) (s t : Standing) (answer : Reply) (changed : Attempt H) → TurnsOne function outcome one s answer t changed → GrowsBy (Some one.invocation, false) s t
  turn_grows outcome one s t (reply.Turned turn) changed it = same_grows (Some one.invocation, false) s t it.1.events
  turn_grows outcome one s t _ changed it = absurd it

  move_grows : (count : ℕ) (one : HeldAttempt H) (s t : Standing) (answer : Reply) (changed : Attempt H) → MovesOne count one s answer t changed → GrowsBy (Some one.invocation, false) s t
  move_grows count one s t (reply.Moved bytes frames why) changed it = accepts_grow one.invocation one.number (take bytes (output_of one.attempt)) (it.0, why) s t it.3
  move_grows count one s t (reply.Refused (refusal.Store why)) changed it =
      stays_grows (Some one.invocation, false) s t (bytes_stay (is_live s.events one.invocation one.number) one.invocation one.number why s t it.0)
  move_grows count one s t _ changed it = absurd it

  held_grows : (does : Bool) (Change : HeldAttempt H → Standing → Reply → Standing → Attempt H → Type 0) (id : Text) (n : ℕ) (s t : Standing) (held more : List (HeldAttempt H)) (answer : Reply)
      → ((one : HeldAttempt H) (changed : Attempt H) → Change one s answer t changed → GrowsBy (Some one.invocation, does) s t) → IfHeld Change (held_of held id n) s held answer t more → GrowsBy (Some id, does) s t
  held_grows does Change id n s t held more answer each it = by_held (held_of held id n) refl it
    where
      by_held : (o : Option (HeldAttempt H)) → held_of held id n ≡ o → IfHeld Change o s held answer t more → GrowsBy (Some id, does) s t
      by_held None is it = same_grows (Some id, does) s t it.1.events
      by_held (Some one) is it = subst (λ (other : Text). GrowsBy (Some other, does) s t) (held_is id n one (found_is id n held one is)).0 (each one it.0 it.1)

  turned_grows : (outcome : RunOutcome) (is_mismatch : Bool) (id : Text) (n : ℕ) (s t : Standing) (held more : List (HeldAttempt H)) (answer : Reply)
      → UnlessMismatch is_mismatch (TurnsOne function outcome) (held_of held id n) s held answer t more → GrowsBy (Some id, false) s t
  turned_grows outcome true id n s t held more answer it = same_grows (Some id, false) s t it.1.events
  turned_grows outcome false id n s t held more answer it = held_grows false (TurnsOne function outcome) id n s t held more answer (λ one. turn_grows outcome one s t answer) it

  pub does_grow : (one : scheduled.Event H) (s t : Standing) (held more : List (HeldAttempt H)) (answer : Reply) → Does function options one s held answer t more → GrowsBy (kind_named one) s t
  does_grow (event.Invoke one) s t held more answer it = done_grows (λ result. Invokes one result s t) (Some one.id, false) answer s t (invoke_grows one s t) it.0
  does_grow (event.Result id n value) s t held more answer it = place_grows (λ result. CompletesCall id n value result s t) (Some id, false) answer s t (complete_grows id n value s t) it.0
  does_grow (event.Signal id key value) s t held more answer it = place_grows (λ result. Signals id key value result s t) (Some id, false) answer s t (signal_grows id key value s t) it.0
  does_grow (event.Cancel id) s t held more answer it = place_grows (λ result. Cancels id result s t) (Some id, false) answer s t (cancel_grows id s t) it.0
  does_grow (event.Tick now) s t held more answer it = count_grows (λ result. Ticks now result s t) (None, false) answer s t (tick_grows now s t) it.0
  does_grow (event.Begin id handler now) s t held more answer it = begin_grows id handler now s t held more answer it
  does_grow (event.Feed id n count) s t held more answer it = held_grows true (FeedsOne count) id n s t held more answer (λ one. feed_grows count one s t answer) it
  does_grow (event.Close id n) s t held more answer it = held_grows false ClosesOne id n s t held more answer (λ one. close_grows one s t answer) it
  does_grow (event.Turn id n outcome) s t held more answer it = turned_grows outcome (tells_mismatch outcome) id n s t held more answer it
  does_grow (event.Move id n count) s t held more answer it = held_grows false (MovesOne count) id n s t held more answer (λ one. move_grows count one s t answer) it
  does_grow (event.Stop id n) s t held more answer it =
      held_grows false StopsOne id n s t held more answer (λ one changed it. done_grows (λ result. Stops one.invocation one.number result s t) (Some one.invocation, false) answer s t (stop_grows one.invocation one.number s t) it.0) it

  name_is : (one : scheduled.Event H) (event : Event) → IsOfKind (kind_named one) event → IsOneOf (invocation_named one) event
  name_is (event.Begin id handler now) event is = is.0
  name_is (event.Feed id attempt count) event is = is.0
  name_is one event is = is.0

  all_named : (one : scheduled.Event H) (events : List Event) → AllByRecursion (IsOfKind (kind_named one)) events → AllByRecursion (IsOneOf (invocation_named one)) events
  all_named one [] all = tt
  all_named one (event ∷ events) all = (name_is one event all.0, all_named one events all.1)

  -- what each event adds to the accepted events
  pub all_add : (events : List (scheduled.Event H)) (replies : List Reply) (old new : Scheduled H) → AppliesAll function options events replies old new
      → (added : List (List Event)) × AppliesEach function options events replies added old new
  all_add [] [] old new it = ([], it)
  all_add (one ∷ events) (answer ∷ replies) old new it =
      let first = does_grow one old.standing it.0.standing old.held it.0.held answer it.1 in
      let rest = all_add events replies it.0 new it.2 in
      (first.0 ∷ rest.0, (it.0, it.1, first.1, all_named one first.0 first.2, rest.1))
  all_add [] (answer ∷ replies) old new it = absurd it
  all_add (one ∷ events) [] old new it = absurd it

  -- so those from before stay, and more are put in front of them
  pub each_grow : (events : List (scheduled.Event H)) (replies : List Reply) (added : List (List Event)) (old new : Scheduled H) → AppliesEach function options events replies added old new
      → Grows old.standing new.standing
  each_grow [] [] [] old new it = ([], ap (λ (s : Scheduled H). s.standing.events) it)
  each_grow (one ∷ events) (answer ∷ replies) (some ∷ added) old new it =
      let rest = each_grow events replies added it.0 new it.4 in
      (rest.0 ++ some, rest.1 ∙ ap (λ (es : List Event). rest.0 ++ es) it.2 ∙ sym (append_assoc rest.0 some old.standing.events))
  each_grow [] [] (some ∷ added) old new it = absurd it
  each_grow [] (answer ∷ replies) added old new it = absurd it
  each_grow (one ∷ events) [] added old new it = absurd it
  each_grow (one ∷ events) (answer ∷ replies) [] old new it = absurd it
