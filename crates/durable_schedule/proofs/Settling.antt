-- What a schedule leads to and what of it lasts, one event after another.
use Rattle.std.proofs.Common.{◌≡◌, ◌≢◌, ◌⊎◌, refl, sym, ap, subst, ◌++◌, ℕ, zero, suc, arith, List, [], ◌∷◌, Option, inl, inr}
use Rattle.sqlite_trees.specs.declared.store.Store.{Ghosts}
use Rattle.sqlite.specs.Held.{state}
use Rattle.sqlite.specs.State.{HasCleanDisk}
use Rattle.journal_model.specs.Notification.{Text}
use Rattle.journal_model.specs.Run.{Handler}
use Rattle.vm_types.specs.declared.options.VMOptions.{VMOptions}
use Rattle.store_refusals.specs.declared.refusal.Refusal.{Refusal}
use Rattle.journal_store.specs.StoreView.{Stored}
use Rattle.journal_store.specs.StoreStanding.{Endures, IsQuiet, IsStanding, Outlasts}
use Rattle.store_calls.specs.AbstractStore.{Standing}
use Rattle.schedule_laws.proofs.Schedules.{schedules_grow}
use Rattle.schedule_laws.specs.Schedules.event
use Rattle.schedule_laws.specs.Schedules.reply
use Rattle.schedule_laws.specs.Schedules.refusal
use Rattle.schedule_laws.specs.Schedules.{Event, Reply, HeldAttempt, Scheduled, held_of, tells_mismatch, Applies, AppliesAll}
use Rattle.scheduler.specs.declared.scheduler.Scheduler.{Scheduler}
use Rattle.scheduler.specs.SchedulerCalls.{AppliesWith, IsScheduled, IsEventWritten, OutlastsEvent, Spares}
use Rattle.durable_schedule.specs.Runs.{AreCertain, IsCertain, LastsNext, LastsBehind, at_first}
use Rattle.durable_schedule.proofs.Quieting.{KeepsAsWell, fed_kept, shut_kept, turned_kept, ended_kept}
use Rattle.durable_schedule.proofs.Refusing.{rest_lasts}
use Rattle.durable_schedule.proofs.Crashing.{IsUnwritten, invoke_unwritten, complete_unwritten, signal_unwritten, cancel_unwritten, tick_unwritten, begin_unwritten, refused_unwritten, moved_unwritten, unheld_kept, move_replies, move_matches}
use Rattle.durable_schedule.proofs.Running.{LeadsFirst}

module _ {H : Type 0} (function : H → Handler) (options : VMOptions) where
  -- one more event behind others
  behind_next : (Before : Type 0) (events : List (Event H)) (replies : List Reply) (one : Event H) (answer : Reply) (old new : Scheduled H) → AppliesAll function options events replies old new
      → LastsBehind Before (events ++ one ∷ []) (replies ++ answer ∷ []) → LastsNext (LastsBehind Before events replies) one answer
  behind_next Before [] [] one answer old new applies it = it
  behind_next Before (first ∷ events) (told ∷ replies) one answer old new applies it = behind_next (LastsNext Before first told) events replies one answer applies.0 new applies.2 it
  behind_next Before [] (told ∷ replies) one answer old new applies it = absurd applies
  behind_next Before (first ∷ events) [] one answer old new applies it = absurd applies

  module _ {S : Type 0} (g : Ghosts S) where
    -- what lasted before an event lasts behind it
    abbrev Carries : Event H → Reply → Scheduler H S → Scheduler H S → Type 0
    Carries one answer old new =
        (from to : Scheduled H) → IsScheduled g from old → Applies function options one answer from to → Outlasts from.standing.events (state g old.store.connection)
        → Outlasts to.standing.events (state g new.store.connection)

    module _ (one : Event H) (answer : Reply) (old new : Scheduler H S) where
      same_carries : new.store ≡ old.store → ((from to : Scheduled H) → Applies function options one answer from to → KeepsAsWell from.standing to.standing) → Carries one answer old new
      same_carries same keeps from to is applies lasts trees may = keeps from to applies trees (lasts trees (subst (λ (store : Stored S). (state g store.connection).may_leave trees) same may))

      module _ (clean : HasCleanDisk (state g new.store.connection)) where
        quiet_carries : IsQuiet g old.store new.store → ((from to : Scheduled H) → Applies function options one answer from to → KeepsAsWell from.standing to.standing) → Carries one answer old new
        quiet_carries quiet keeps from to is applies lasts trees may =
            keeps from to applies trees (elim (quiet.crash clean trees may) [ inl before ↦ lasts trees before | inr never ↦ absurd never ])

        unwritten_carries : Endures g (AppliesWith function options one old.held) old.store new.store → IsUnwritten (state g new.store.connection) clean function options one answer → Carries one answer old new
        unwritten_carries lives unwritten from to is applies lasts trees may =
            let both = unwritten from to applies in
            elim (lives.crash clean trees may) [
              | inl before ↦ both.0 trees (lasts trees before)
              | inr keeps ↦
                  let it = keeps from.standing is.standing in
                  both.1 it.0 (subst (λ (held : List (HeldAttempt H)). AppliesWith function options one held from.standing it.0) (sym is.held) it.1) trees it.2
            ]

    -- Where all is to last behind an event, all before it has to, and lasts behind it as well; or the event was written, and so was all before.
    module _ (Before : Type 0) (old new : Scheduler H S) (clean : HasCleanDisk (state g new.store.connection)) where
      abbrev LastsOn : Event H → Reply → Type 0
      LastsOn one answer = LastsNext Before one answer → Before × Carries one answer old new

      abbrev LastsWhole : Event H → Reply → Type 0
      LastsWhole one answer =
          IsEventWritten one answer
          × (LastsNext Before one answer → (t : Standing) → OutlastsEvent one answer t (state g new.store.connection) → Outlasts t.events (state g new.store.connection))

      abbrev Either : Event H → Reply → Type 0
      Either one answer = LastsOn one answer ⊎ LastsWhole one answer

      abbrev Told : Event H → Reply → Type 0
      Told one answer =
          Spares g one answer old new → Endures g (AppliesWith function options one old.held) old.store new.store → (from to : Scheduled H) → Applies function options one answer from to
          → Either one answer

      -- what was refused or moved for certain was not written
      certain_lasts : (one : Event H) (answer : Reply) (Certain : Type 0) → (LastsNext Before one answer → Certain × Before) → (Certain → IsUnwritten (state g new.store.connection) clean function options one answer)
          → Endures g (AppliesWith function options one old.held) old.store new.store → Either one answer
      certain_lasts one answer Certain parts unwritten lives =
          inl (λ it. let both = parts it in (both.1, unwritten_carries one answer old new clean lives (unwritten both.0)))

      refused_lasts : (one : Event H) (why : Refusal) → (LastsNext Before one (reply.Refused (refusal.Store why)) → IsCertain why × Before)
          → (IsCertain why → IsUnwritten (state g new.store.connection) clean function options one (reply.Refused (refusal.Store why)))
          → Endures g (AppliesWith function options one old.held) old.store new.store → Either one (reply.Refused (refusal.Store why))
      refused_lasts one why = certain_lasts one (reply.Refused (refusal.Store why)) (IsCertain why)

      -- no frame was taken
      none_was : (why : Option Refusal) → AreCertain why × ((zero ≢ 0) ⊎ Before) → AreCertain why × Before
      none_was why it = (it.0, elim it.1 [ inl some ↦ absurd (some refl) | inr before ↦ before ])

      by_move : (id : Text) (n count : ℕ) (answer : Reply) → Told (event.Move id n count) answer
      by_move id n count (reply.Refused refusal.AttemptNotHeld) spares lives from to applies =
          inl (λ it. (
            it,
            same_carries (event.Move id n count) (reply.Refused refusal.AttemptNotHeld) old new (ap (λ (scheduler : Scheduler H S). scheduler.store) (spares.unheld refl))
                (λ before behind. unheld_kept count before.standing behind.standing (held_of before.held id n) before.held behind.held),
          ))
      by_move id n count (reply.Refused refusal.JournalMismatchOutcome) spares lives from to applies =
          absurd (move_matches count from.standing to.standing (held_of from.held id n) from.held to.held applies)
      by_move id n count (reply.Refused (refusal.Store why)) spares lives from to applies =
          refused_lasts (event.Move id n count) why (λ it. it) (refused_unwritten (state g new.store.connection) clean function options id n count why) lives
      by_move id n count (reply.Moved bytes zero why) spares lives from to applies =
          certain_lasts (event.Move id n count) (reply.Moved bytes 0 why) (AreCertain why) (none_was why)
          (moved_unwritten (state g new.store.connection) clean function options id n count bytes why) lives
      by_move id n count (reply.Moved bytes (suc frames) why) spares lives from to applies =
          inr ((λ none. omega (arith, none)), λ it t lasts. rest_lasts (state g new.store.connection) clean id n why lasts.0 t it.0 lasts.1 lasts.2)
      by_move id n count reply.Done spares lives from to applies = absurd (move_replies count from.standing to.standing (held_of from.held id n) from.held to.held reply.Done applies)
      by_move id n count (reply.Placed place) spares lives from to applies = absurd (move_replies count from.standing to.standing (held_of from.held id n) from.held to.held (reply.Placed place) applies)
      by_move id n count (reply.Ticked ended) spares lives from to applies = absurd (move_replies count from.standing to.standing (held_of from.held id n) from.held to.held (reply.Ticked ended) applies)
      by_move id n count (reply.Begun number) spares lives from to applies = absurd (move_replies count from.standing to.standing (held_of from.held id n) from.held to.held (reply.Begun number) applies)
      by_move id n count (reply.Fed bytes why) spares lives from to applies = absurd (move_replies count from.standing to.standing (held_of from.held id n) from.held to.held (reply.Fed bytes why) applies)
      by_move id n count (reply.Turned turn) spares lives from to applies = absurd (move_replies count from.standing to.standing (held_of from.held id n) from.held to.held (reply.Turned turn) applies)

      by_event : (one : Event H) (answer : Reply) → Told one answer
      by_event (event.Invoke one) reply.Done spares lives from to applies = inr (tt, λ it t lasts. lasts)
      by_event (event.Result id n value) (reply.Placed place) spares lives from to applies = inr (tt, λ it t lasts. lasts)
      by_event (event.Signal id key value) (reply.Placed place) spares lives from to applies = inr (tt, λ it t lasts. lasts)
      by_event (event.Cancel id) (reply.Placed place) spares lives from to applies = inr (tt, λ it t lasts. lasts)
      by_event (event.Tick now) (reply.Ticked count) spares lives from to applies = inr (tt, λ it t lasts. lasts)
      by_event (event.Begin id handler now) (reply.Begun number) spares lives from to applies = inr (tt, λ it t lasts. lasts)
      by_event (event.Invoke one) (reply.Refused (refusal.Store why)) spares lives from to applies =
          refused_lasts (event.Invoke one) why (λ it. it) (invoke_unwritten (state g new.store.connection) clean function options one why) lives
      by_event (event.Result id n value) (reply.Refused (refusal.Store why)) spares lives from to applies =
          refused_lasts (event.Result id n value) why (λ it. it) (complete_unwritten (state g new.store.connection) clean function options id n value why) lives
      by_event (event.Signal id key value) (reply.Refused (refusal.Store why)) spares lives from to applies =
          refused_lasts (event.Signal id key value) why (λ it. it) (signal_unwritten (state g new.store.connection) clean function options id key value why) lives
      by_event (event.Cancel id) (reply.Refused (refusal.Store why)) spares lives from to applies =
          refused_lasts (event.Cancel id) why (λ it. it) (cancel_unwritten (state g new.store.connection) clean function options id why) lives
      by_event (event.Tick now) (reply.Refused (refusal.Store why)) spares lives from to applies =
          refused_lasts (event.Tick now) why (λ it. it) (tick_unwritten (state g new.store.connection) clean function options now why) lives
      by_event (event.Begin id handler now) (reply.Refused (refusal.Store why)) spares lives from to applies =
          refused_lasts (event.Begin id handler now) why (λ it. it) (begin_unwritten (state g new.store.connection) clean function options id handler now why) lives
      by_event (event.Invoke one) _ spares lives from to applies = absurd applies.0
      by_event (event.Result id n value) _ spares lives from to applies = absurd applies.0
      by_event (event.Signal id key value) _ spares lives from to applies = absurd applies.0
      by_event (event.Cancel id) _ spares lives from to applies = absurd applies.0
      by_event (event.Tick now) _ spares lives from to applies = absurd applies.0
      by_event (event.Begin id handler now) _ spares lives from to applies = absurd applies
      by_event (event.Feed id n count) answer spares lives from to applies =
          inl (λ it. (
            it,
            quiet_carries (event.Feed id n count) answer old new clean spares.quiet
                (λ before behind. fed_kept (state g new.store.connection) clean before.standing behind.standing (held_of before.held id n) before.held behind.held answer count),
          ))
      by_event (event.Close id n) answer spares lives from to applies =
          inl (λ it. (
            it,
            quiet_carries (event.Close id n) answer old new clean spares.quiet
                (λ before behind. shut_kept (state g new.store.connection) clean before.standing behind.standing (held_of before.held id n) before.held behind.held answer),
          ))
      by_event (event.Turn id n outcome) answer spares lives from to applies =
          inl (λ it. (
            it,
            same_carries (event.Turn id n outcome) answer old new spares.quiet
                (λ before behind. turned_kept (state g new.store.connection) clean before.standing behind.standing (held_of before.held id n) before.held behind.held answer function outcome (tells_mismatch outcome)),
          ))
      by_event (event.Move id n count) answer spares lives from to applies = by_move id n count answer spares lives from to applies
      by_event (event.Stop id n) answer spares lives from to applies =
          inl (λ it. (
            it,
            quiet_carries (event.Stop id n) answer old new clean spares.quiet
                (λ before behind. ended_kept (state g new.store.connection) clean before.standing behind.standing (held_of before.held id n) before.held behind.held answer),
          ))

    -- what is applied to a scheduler, and what lasts of it
    abbrev pub AppliesOne : Event H → Reply → Scheduler H S → Scheduler H S → Type 0
    AppliesOne one answer old new =
        HasCleanDisk (state g new.store.connection) → (from : Scheduled H) → IsScheduled g from old → (to : Scheduled H) × IsScheduled g to new × Applies function options one answer from to

    abbrev pub SettlesOne : Event H → Reply → Scheduler H S → Scheduler H S → Type 0
    SettlesOne one answer old new =
        IsEventWritten one answer → HasCleanDisk (state g new.store.connection) → (from : Scheduled H) → IsScheduled g from old
        → (to : Scheduled H) × IsScheduled g to new × Applies function options one answer from to × OutlastsEvent one answer to.standing (state g new.store.connection)

    -- One more event: of what it leads to then, all lasts. What was written is told with what lasts of it, anything else is what it does.
    pub one_leads : (events : List (Event H)) (replies : List Reply) (one : Event H) (answer : Reply) (first : Stored S) (old new : Scheduler H S)
        → (HasCleanDisk (state g new.store.connection) → HasCleanDisk (state g old.store.connection)) → LeadsFirst function options g events replies first old
        → AppliesOne one answer old new → SettlesOne one answer old new → Spares g one answer old new → Endures g (AppliesWith function options one old.held) old.store new.store
        → LeadsFirst function options g (events ++ one ∷ []) (replies ++ answer ∷ []) first new
    one_leads events replies one answer first old new earlier leads does settled spares lives clean s is =
        let before = leads (earlier clean) s is in
        let after = does clean before.0 before.1 in
        let First : Type 0 = Outlasts s.events (state g first.connection) in
        elim (by_event (LastsBehind First events replies) old new clean one answer spares lives before.0 after.0 after.2) [
          | inl kept ↦ (
            after.0,
            after.1,
            schedules_grow function options events replies (at_first s) before.0 after.0 one answer before.2 after.2,
            λ it. let was = kept (behind_next First events replies one answer (at_first s) before.0 before.2 it) in was.1 before.0 after.0 before.1 after.2 (before.3 was.0),
          )
          | inr whole ↦
              let to = settled whole.0 clean before.0 before.1 in (
                to.0,
                to.1,
                schedules_grow function options events replies (at_first s) before.0 to.0 one answer before.2 to.2,
                λ it. whole.1 (behind_next First events replies one answer (at_first s) before.0 before.2 it) to.0.standing to.3,
              )
        ]

    -- nothing has been done
    pub none_leads : (first : Stored S) (new : Scheduler H S) → first ≡ new.store → [] ≡ new.held → LeadsFirst function options g [] [] first new
    none_leads first new same none clean s is = (
      at_first s,
      record { standing = subst (λ (store : Stored S). IsStanding g s store) same is; held = none },
      refl,
      λ it. subst (λ (store : Stored S). Outlasts s.events (state g store.connection)) same it,
    )
