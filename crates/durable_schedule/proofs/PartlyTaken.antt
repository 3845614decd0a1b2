-- Frames that a move has told before one was refused: they last, and the one that was refused may have been written too.
use Rattle.std.proofs.Common.{◌≡◌, ◌⊎◌, ◌∙◌, refl, sym, ap, subst, ℕ, zero, suc, arith, Bool, true, false, take, Option, Some, None, inl, inr}
use Rattle.sqlite.specs.State.{State, HasCleanDisk}
use Rattle.sqlite_trees.specs.Tree.{Trees}
use Rattle.journal_model.specs.Notification.{Text}
use Rattle.journal_model.specs.Run.{Handler}
use Rattle.vm_types.specs.declared.options.VMOptions.{VMOptions}
use Rattle.store_refusals.specs.declared.refusal.Refusal.{Refusal}
use Rattle.store_refusals.specs.RefusalConditions.{is_circumstance}
use Rattle.store_steps.specs.PreparedFrames.{lies_in_frame}
use Rattle.store_calls.specs.AbstractStore.{Standing, StaysStanding}
use Rattle.store_calls.specs.Frames.{LeavesRefused, Rests, TakesOne}
use Rattle.store_calls.proofs.Taking.{before_still, takes_first}
use Rattle.journal_store.specs.StoreStanding.{KeepsAll}
use Rattle.schedule_laws.proofs.Schedules.{found_is, held_is}
use Rattle.schedule_laws.specs.Attempts.{Attempt, output_of}
use Rattle.schedule_laws.specs.Schedules.event
use Rattle.schedule_laws.specs.Schedules.reply
use Rattle.schedule_laws.specs.Schedules.refusal
use Rattle.schedule_laws.specs.Schedules.{Applies, Event, HeldAttempt, IfHeld, MovesOne, Reply, Scheduled, held_of, with_attempt}
use Rattle.scheduler.specs.SchedulerCalls.{AppliesWith, IsEventWritten, MovesSome, OutlastsEvent, OutlastsRest}
use Rattle.scheduler.proofs.Moving.{moves_first}
use Rattle.durable_schedule.specs.Runs.{HasTakenOf}
use Rattle.durable_schedule.proofs.Refusing.{in_frame, no_more, rests_kept}

-- ---- one frame more

-- a frame that was refused for no cause that lies in it waits still
stays_refused : (id : Text) (n : ℕ) (why : Refusal) (m t : Standing) → lies_in_frame why ≡ false → Rests id n (Some why) m t → StaysStanding m t
stays_refused id n why m t e (inl room) = room.stays
stays_refused id n why m t e (inr refused) = subst (λ (lies : Bool). LeavesRefused lies id n m t) e refused.left

no_circumstance : (why : Refusal) → lies_in_frame why ≡ true → is_circumstance why ≡ false
no_circumstance why lies = by_kind (is_circumstance why) refl
  where
    by_kind : (b : Bool) → is_circumstance why ≡ b → is_circumstance why ≡ false
    by_kind false e = e
    by_kind true e = absurd (in_frame why lies e)

module _ {H : Type 0} (count : ℕ) (one : HeldAttempt H) (bytes frames : ℕ) (why : Refusal) (s t : Standing) (changed : Attempt H) where
  one_more : lies_in_frame why ≡ false → MovesOne count one s (reply.Moved bytes frames (Some why)) t changed → (m u : Standing) → StaysStanding m t → TakesOne one.invocation one.number m u
      → MovesSome count one s u
  one_more e it m u stays takes =
      let id = one.invocation in
      let n = one.number in
      let accepts = it.3 in
      let between = accepts.2.between in
      let same = stays_refused id n why between t e accepts.2.rests in
      let back : StaysStanding between m = record { events = sym stays.events ∙ same.events; outputs = λ any. sym (stays.outputs any) ∙ same.outputs any } in
      let first = takes_first id n it.0 takes.0 accepts.0 between u accepts.2.taken (before_still id n takes.0 between m u back takes.1) in
      moves_first count one (take bytes (output_of one.attempt)) (ap (λ (k : ℕ). take k (output_of one.attempt)) it.2) s u (accepts.0, accepts.1, first)

-- ---- a move

module _ {H : Type 0} (function : H → Handler) (options : VMOptions) (database : State) (clean : HasCleanDisk database) (trees : Trees) (may : database.may_leave trees) where
  -- what it leads to is kept, or what it would have led to with another answer
  abbrev pub IsKeptOf : Event H → (from to : Scheduled H) → Type 0
  IsKeptOf one from to = KeepsAll to.standing.events trees ⊎ ((u : Standing) × AppliesWith function options one from.held from.standing u × KeepsAll u.events trees)

  module _ (id : Text) (n count bytes frames : ℕ) (from to : Scheduled H) (one : HeldAttempt H) (is : held_of from.held id n ≡ Some one) where
    taken_later : (why : Refusal) (changed : Attempt H) → MovesOne count one from.standing (reply.Moved bytes frames (Some why)) to.standing changed → (m u : Standing) → Rests id n (Some why) m to.standing
        → TakesOne id n m u → KeepsAll u.events trees → (lies : Bool) → lies_in_frame why ≡ lies → IsKeptOf (event.Move id n count) from to
    taken_later why changed moves m u rests takes keeps true e =
        absurd (no_more database clean id n (Some why) m to.standing m u takes.0 (no_circumstance why e) rests (record { events = refl; outputs = λ any. refl }) takes.1)
    taken_later why changed moves m u rests takes keeps false e =
        let parts = held_is id n one (found_is id n from.held one is) in
        let own : TakesOne one.invocation one.number m u =
        subst (λ (i : Text). TakesOne i one.number m u) (sym parts.0) (subst (λ (k : ℕ). TakesOne id k m u) (sym parts.1) takes) in
        let some = one_more count one bytes frames why from.standing to.standing changed e moves m u (stays_refused id n why m to.standing e rests) own in
        inr (
          u,
          (
            some.0,
            with_attempt from.held one some.1,
            subst (λ (o : Option (HeldAttempt H)). IfHeld (MovesOne count) o from.standing from.held some.0 u (with_attempt from.held one some.1)) (sym is) (some.1, some.2, refl),
          ),
          keeps,
        )

    by_refusal : (why : Option Refusal) (changed : Attempt H) → MovesOne count one from.standing (reply.Moved bytes frames why) to.standing changed → OutlastsRest id n why to.standing database
        → IsKeptOf (event.Move id n count) from to
    by_refusal None changed moves (m, rests, lasts) = inl (rests_kept database clean id n None m to.standing rests trees (lasts trees may))
    by_refusal (Some why) changed moves (m, rests, lasts) = elim (lasts trees may) [
      | inl kept ↦ inl (rests_kept database clean id n (Some why) m to.standing rests trees kept)
      | inr more ↦ taken_later why changed moves m more.0 rests more.1 more.2 (lies_in_frame why) refl
    ]

  move_left : (id : Text) (n count bytes frames : ℕ) (why : Option Refusal) (from to : Scheduled H) → Applies function options (event.Move id n count) (reply.Moved bytes frames why) from to
      → OutlastsRest id n why to.standing database → IsKeptOf (event.Move id n count) from to
  move_left id n count bytes frames why from to applies lasts = by_held (held_of from.held id n) refl applies
    where
      by_held : (o : Option (HeldAttempt H)) → held_of from.held id n ≡ o → IfHeld (MovesOne count) o from.standing from.held (reply.Moved bytes frames why) to.standing to.held
          → IsKeptOf (event.Move id n count) from to
      by_held None is it = absurd (let clash : reply.Moved bytes frames why ≡ reply.Refused refusal.AttemptNotHeld = it.0 in cc)
      by_held (Some one) is it = by_refusal id n count bytes frames from to one is why it.0 it.1 lasts

  pub taken_left : (one : Event H) (answer : Reply) (from to : Scheduled H) → HasTakenOf one answer → Applies function options one answer from to → OutlastsEvent one answer to.standing database
      → IsKeptOf one from to
  taken_left (event.Move id n count) (reply.Moved bytes frames why) from to some applies lasts = move_left id n count bytes frames why from to applies lasts
  taken_left (event.Move id n count) _ from to some applies lasts = absurd some
  taken_left _ answer from to some applies lasts = absurd some

-- ---- whether any were

module _ {H : Type 0} where
  pub so_written : (one : Event H) (answer : Reply) → HasTakenOf one answer → IsEventWritten one answer
  so_written (event.Move id n count) (reply.Moved bytes frames why) some = some
  so_written (event.Move id n count) _ some = absurd some
  so_written _ answer some = absurd some

  pub taken_or_not : (one : Event H) (answer : Reply) → HasTakenOf one answer ⊎ (HasTakenOf one answer → ⊥)
  taken_or_not (event.Move id n count) (reply.Moved bytes zero why) = inr (λ some. some refl)
  taken_or_not (event.Move id n count) (reply.Moved bytes (suc frames) why) = inl (λ none. omega (arith, none))
  taken_or_not (event.Move id n count) _ = inr (λ some. some)
  taken_or_not _ answer = inr (λ some. some)
