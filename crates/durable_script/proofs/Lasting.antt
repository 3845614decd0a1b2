-- What a line prints lasts.
use Rattle.std.proofs.Common.{◌⊎◌, ℕ, zero, suc, List, [], ◌∷◌, ◌++◌, Option, Some, None, IsSome, refl, subst, inl, inr, arith}
use Rattle.sqlite_trees.specs.declared.store.Store.{Ghosts}
use Rattle.sqlite_trees.specs.Tree.{Trees}
use Rattle.sqlite.specs.Held.{state}
use Rattle.sqlite.specs.State.{HasCleanDisk}
use Rattle.built_in_handlers.specs.declared.built_in.BuiltIn.{BuiltIn}
use Rattle.built_in_handlers.specs.BuiltIn.{function_of}
use Rattle.journal_model.specs.Notification.{Text}
use Rattle.vm_types.specs.declared.options.VMOptions.{VMOptions}
use Rattle.store_refusals.specs.declared.refusal.Refusal.{Refusal}
use Rattle.store_calls.specs.AbstractStore.{Standing, StaysStanding}
use Rattle.store_calls.specs.Frames.{TakesOne}
use Rattle.journal_store.specs.OutputAcceptance.{OutlastsFrames}
use Rattle.journal_store.specs.StoreStanding.{KeepsAll, Outlasts}
use Rattle.schedule_laws.specs.Schedules.{held_of}
use Rattle.scheduler.specs.declared.scheduler.Scheduler.{Scheduler}
use Rattle.scheduler.specs.SchedulerCalls.{IsEventWritten, IsScheduled, OutlastsEvent, OutlastsRest}
use Rattle.durable_schedule.specs.Schedules.event
use Rattle.durable_schedule.specs.Schedules.reply
use Rattle.durable_schedule.specs.Schedules.{Applies, Event, FitsEvent, Reply, Scheduled, event_refusal_name_of}
use Rattle.durable_schedule.proofs.Crashing.{move_replies}
use Rattle.durable_script.specs.Lasting.{IsUnwrittenEvent, KeepsEvent, KeepsMove}
use Rattle.durable_script.specs.Line.{AppliesOne, DoesEvent, DoesLine, DoesSomeLine}
use Rattle.durable_script.specs.ReplyTexts.{printed}
use Rattle.durable_script.specs.Run.{DoneLine, DoesAll, DoesFirst, HasRun, KeepsDone, NoneWritten}
use Rattle.durable_script.specs.Runner.{PrintsLine}
use Rattle.durable_script.specs.SchedulerChanges.{IsAt, LeavesKept}
use Rattle.durable_script.proofs.SchedulerChanges.{Promised, reaches_none, reaches_then}

-- the text of an event's reply, with its line feed
abbrev line_of : Reply → List ℕ
line_of answer = printed 1 answer ++ 10 ∷ []

module _ {S : Type 0} (g : Ghosts S) (old new : Scheduler BuiltIn S) where
  pub leaves_so : (N : Type 0) (P Q : Scheduled BuiltIn → Scheduled BuiltIn → Type 0) → ((s t : Scheduled BuiltIn) → P s t → Q s t) → LeavesKept g N P old new → LeavesKept g N Q old new
  leaves_so N P Q so lasts clean trees may = elim (lasts clean trees may) [
    | inl was ↦ inl was
    | inr keeps ↦ inr (λ before at. let it = keeps before at in (it.0, so before it.0 it.1, it.2))
  ]

  -- ---- one event

  -- what is answered as written lasts
  abbrev pub Settled : Event BuiltIn → Reply → Type 0
  Settled one answer =
      IsEventWritten one answer → HasCleanDisk (state g new.store.connection) → (s : Scheduled BuiltIn) → IsScheduled g s old
      → (t : Scheduled BuiltIn) × IsScheduled g t new × Applies function_of old.options one answer s t × OutlastsEvent one answer t.standing (state g new.store.connection)

  applied : (one : Event BuiltIn) (answer : Reply) (s t : Scheduled BuiltIn) → IsAt g s old → FitsEvent one → Applies function_of old.options one answer s t → AppliesOne one answer s t
  applied one answer s t at fits it = record { applied = subst (λ (o : VMOptions). Applies function_of o one answer s t) at.options it; fits = fits }

  kept : (one : Event BuiltIn) (answer : Reply) → FitsEvent one
      → (HasCleanDisk (state g new.store.connection) → (s : Scheduled BuiltIn) → IsScheduled g s old
      → (t : Scheduled BuiltIn) × IsScheduled g t new × Applies function_of old.options one answer s t × Outlasts t.standing.events (state g new.store.connection))
      → LeavesKept g ⊥ (DoesEvent one (line_of answer)) old new
  kept one answer fits settled clean trees may = inr (λ before at.
      let it = settled clean before at.scheduled in
      (it.0, record { reply = answer; applies = applied one answer before it.0 at fits it.2; text_is = refl }, it.3 trees may))

  -- what is never answered so, whatever it stood for
  never : (Kept : Scheduled BuiltIn → Scheduled BuiltIn → Type 0) → (HasCleanDisk (state g new.store.connection) → (s : Scheduled BuiltIn) → IsScheduled g s old → ⊥) → LeavesKept g ⊥ Kept old new
  never Kept refuted clean trees may = inr (λ before at. absurd (refuted clean before at.scheduled))

  module _ (id : Text) (n : ℕ) where
    frames_left : (why : Option Refusal) (between : Standing) (trees : Trees) → OutlastsFrames id n why between (state g new.store.connection) → (state g new.store.connection).may_leave trees
        → (u : Standing) × (StaysStanding between u ⊎ (IsSome why × TakesOne id n between u)) × KeepsAll u.events trees
    frames_left None between trees lasts may = (between, inl (record { events = refl; outputs = λ other. refl }), lasts trees may)
    frames_left (Some why) between trees lasts may = elim (lasts trees may) [
      | inl same ↦ (between, inl (record { events = refl; outputs = λ other. refl }), same)
      | inr next ↦ (next.0, inr (refl, next.1), next.2)
    ]

    kept_move : (count bytes frames : ℕ) (why : Option Refusal) → FitsEvent {H = BuiltIn} (event.Move id n count)
        → (HasCleanDisk (state g new.store.connection) → (s : Scheduled BuiltIn) → IsScheduled g s old
        → (t : Scheduled BuiltIn) × IsScheduled g t new × Applies function_of old.options (event.Move id n count) (reply.Moved bytes frames why) s t
        × OutlastsRest id n why t.standing (state g new.store.connection))
        → LeavesKept g ⊥ (KeepsMove id n count (line_of (reply.Moved bytes frames why))) old new
    kept_move count bytes frames why fits settled clean trees may = inr (λ before at.
        let it = settled clean before at.scheduled in
        let left = frames_left why it.3.0 trees it.3.2 may in (
          record { standing = left.0; held = it.0.held },
          record {
            bytes = bytes;
            frames = frames;
            why = why;
            text_is = refl;
            new = it.0;
            applies = applied (event.Move id n count) (reply.Moved bytes frames why) before it.0 at fits it.2;
            between = it.3.0;
            rests = it.3.1;
            rest = left.1;
          },
          left.2,
        ))

  abbrev Lasts : Event BuiltIn → Reply → Type 0
  Lasts one answer = IsUnwrittenEvent one (line_of answer) ⊎ LeavesKept g ⊥ (KeepsEvent one (line_of answer)) old new

  -- a move is answered that it moved bytes, or that it is refused
  lasts_moved : (id : Text) (n count : ℕ) (answer : Reply) → Promised g (event.Move id n count) answer old new → Settled (event.Move id n count) answer → FitsEvent {H = BuiltIn} (event.Move id n count)
      → Lasts (event.Move id n count) answer
  lasts_moved id n count (reply.Refused why) does settled fits = inl (inl (event_refusal_name_of why, refl))
  lasts_moved id n count (reply.Moved bytes zero why) does settled fits = inl (inr (bytes, why, refl))
  lasts_moved id n count (reply.Moved bytes (suc frames) why) does settled fits =
      inr (kept_move id n count bytes (suc frames) why fits (settled (λ none. omega (arith, none))))
  lasts_moved id n count reply.Done does settled fits =
      inr (never _ (λ clean s is. let it = does clean s is in move_replies count s.standing it.0.standing (held_of s.held id n) s.held it.0.held reply.Done it.2))
  lasts_moved id n count (reply.Placed place) does settled fits =
      inr (never _ (λ clean s is. let it = does clean s is in move_replies count s.standing it.0.standing (held_of s.held id n) s.held it.0.held (reply.Placed place) it.2))
  lasts_moved id n count (reply.Ticked ended) does settled fits =
      inr (never _ (λ clean s is. let it = does clean s is in move_replies count s.standing it.0.standing (held_of s.held id n) s.held it.0.held (reply.Ticked ended) it.2))
  lasts_moved id n count (reply.Begun number) does settled fits =
      inr (never _ (λ clean s is. let it = does clean s is in move_replies count s.standing it.0.standing (held_of s.held id n) s.held it.0.held (reply.Begun number) it.2))
  lasts_moved id n count (reply.Fed bytes why) does settled fits =
      inr (never _ (λ clean s is. let it = does clean s is in move_replies count s.standing it.0.standing (held_of s.held id n) s.held it.0.held (reply.Fed bytes why) it.2))
  lasts_moved id n count (reply.Turned turn) does settled fits =
      inr (never _ (λ clean s is. let it = does clean s is in move_replies count s.standing it.0.standing (held_of s.held id n) s.held it.0.held (reply.Turned turn) it.2))

  pub lasts_by : (one : Event BuiltIn) (answer : Reply) → Promised g one answer old new → Settled one answer → FitsEvent one → Lasts one answer
  lasts_by (event.Invoke one) reply.Done does settled fits = inr (kept (event.Invoke one) reply.Done fits (settled tt))
  lasts_by (event.Result id n value) (reply.Placed place) does settled fits = inr (kept (event.Result id n value) (reply.Placed place) fits (settled tt))
  lasts_by (event.Signal id key value) (reply.Placed place) does settled fits = inr (kept (event.Signal id key value) (reply.Placed place) fits (settled tt))
  lasts_by (event.Cancel id) (reply.Placed place) does settled fits = inr (kept (event.Cancel id) (reply.Placed place) fits (settled tt))
  lasts_by (event.Tick now) (reply.Ticked count) does settled fits = inr (kept (event.Tick now) (reply.Ticked count) fits (settled tt))
  lasts_by (event.Begin id handler now) (reply.Begun number) does settled fits = inr (kept (event.Begin id handler now) (reply.Begun number) fits (settled tt))
  lasts_by (event.Invoke one) (reply.Refused why) does settled fits = inl (event_refusal_name_of why, refl)
  lasts_by (event.Result id n value) (reply.Refused why) does settled fits = inl (event_refusal_name_of why, refl)
  lasts_by (event.Signal id key value) (reply.Refused why) does settled fits = inl (event_refusal_name_of why, refl)
  lasts_by (event.Cancel id) (reply.Refused why) does settled fits = inl (event_refusal_name_of why, refl)
  lasts_by (event.Tick now) (reply.Refused why) does settled fits = inl (event_refusal_name_of why, refl)
  lasts_by (event.Begin id handler now) (reply.Refused why) does settled fits = inl (event_refusal_name_of why, refl)
  lasts_by (event.Invoke one) _ does settled fits = inr (never _ (λ clean s is. absurd ((does clean s is).2.0)))
  lasts_by (event.Result id n value) _ does settled fits = inr (never _ (λ clean s is. absurd ((does clean s is).2.0)))
  lasts_by (event.Signal id key value) _ does settled fits = inr (never _ (λ clean s is. absurd ((does clean s is).2.0)))
  lasts_by (event.Cancel id) _ does settled fits = inr (never _ (λ clean s is. absurd ((does clean s is).2.0)))
  lasts_by (event.Tick now) _ does settled fits = inr (never _ (λ clean s is. absurd ((does clean s is).2.0)))
  lasts_by (event.Begin id handler now) _ does settled fits = inr (never _ (λ clean s is. absurd ((does clean s is).2)))
  lasts_by (event.Feed id n count) answer does settled fits = inl tt
  lasts_by (event.Close id n) answer does settled fits = inl tt
  lasts_by (event.Turn id n outcome) answer does settled fits = inl tt
  lasts_by (event.Move id n count) answer does settled fits = lasts_moved id n count answer does settled fits
  lasts_by (event.Stop id n) answer does settled fits = inl tt

-- ---- lines

module _ {S : Type 0} (g : Ghosts S) where
  pub none_run : (start : Scheduler BuiltIn S) → HasRun g [] start start
  none_run start = record { reaches = reaches_none g (DoesFirst []) (DoesAll []) start (λ s. refl); lasts = λ clean trees may. inl (tt, may) }

  module _ (done : List DoneLine) (one : DoneLine) (start old new : Scheduler BuiltIn S) (before : HasRun g done start old) (next : PrintsLine g one.line one.text old new) where
    more_lasts : LeavesKept g (NoneWritten (one ∷ done)) (KeepsDone (one ∷ done)) start new
    more_lasts clean trees may =
        let early : HasCleanDisk (state g old.store.connection) = omega (arith, next.does.leaves.clean, clean) in
        elim next.lasts [
          | inl none ↦ elim (next.does.leaves.crash clean trees may) [
            | inl was ↦ elim (before.lasts early trees was) [
              | inl unwritten ↦ inl ((unwritten.0, none), unwritten.1)
              | inr keeps ↦ inr (λ s at. let to = keeps s at in (to.0, inr (none, inl to.1), to.2))
            ]
            | inr cut ↦ inr (λ s at.
                let mid = before.reaches.reaches early s at in
                let to = cut mid.0 mid.1 in
                (to.0, inr (none, inr (mid.0, mid.2, to.1)), to.2))
          ]
          | inr lasts ↦ elim (lasts clean trees may) [
            | inl not ↦ absurd not.0
            | inr keeps ↦ inr (λ s at.
                let mid = before.reaches.reaches early s at in
                let to = keeps mid.0 mid.1 in
                (to.0, inl (mid.0, mid.2, to.1), to.2))
          ]
        ]

    pub run_more : HasRun g (one ∷ done) start new
    run_more = record {
      reaches = reaches_then g (DoesFirst done) (DoesSomeLine one.line) (DoesFirst (one ∷ done)) (DoesAll done) (DoesLine one.line one.text) (DoesAll (one ∷ done)) start old new
          (λ x y earlier. inl earlier) (λ x y z p q. inr (y, p, q)) (λ x y z p q. (y, p, q)) before.reaches next.does;
      lasts = more_lasts;
    }
