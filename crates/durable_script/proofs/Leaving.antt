-- What a script leaves of the store that was handed in.
use Rattle.std.proofs.Common.{◌≡◌, List, [], sym, subst, inl, inr}
use Rattle.sqlite_trees.specs.declared.store.Store.{Ghosts}
use Rattle.sqlite.specs.State.{HasCleanDisk, Survives}
use Rattle.sqlite.specs.Held.{state}
use Rattle.sqlite.proofs.StateLemmas.{survives_weaker}
use Rattle.built_in_handlers.specs.declared.built_in.BuiltIn.{BuiltIn}
use Rattle.built_in_handlers.specs.BuiltIn.{function_of}
use Rattle.vm_types.specs.Options.{default_options}
use Rattle.journal_store.specs.StoreView.{Stored}
use Rattle.journal_store.specs.StoreStanding.{Endures, IsStanding, KeepsStanding}
use Rattle.store_calls.specs.AbstractStore.{Standing}
use Rattle.durable_schedule.proofs.Running.{all_left}
use Rattle.schedule_laws.specs.Laws as laws
use Rattle.schedule_laws.specs.Isolation.{AllAnswerAlone, AllKeepState, AllStandAlone}
use Rattle.scheduler.specs.declared.scheduler.Scheduler.{Scheduler}
use Rattle.durable_schedule.specs.Runs.{at_first}
use Rattle.durable_schedule.specs.Schedules.{Scheduled}
use Rattle.durable_script.specs.SchedulerChanges.{IsAt, KeepsCut}
use Rattle.durable_script.specs.Run.{DoneLine, DoesAll, DoesFirst, AreSchedule, AreCut, AreDone, HasRun}
use Rattle.durable_script.proofs.Following.{lines_are, cut_of}

-- what schedules leave, and what that gives, as `schedule_laws` has it
module _ (law : laws.LeavesHolds function_of) (headline : laws.HoldsHeadline) (closed : laws.HoldsClosed) (late : laws.HoldsNeverLate) (exact : laws.HoldsWakesExactly) (taken : laws.FramesAreTaken function_of)
    (stand : AllStandAlone) (keep : AllKeepState) (answer : AllAnswerAlone) (begins_told : laws.HoldsTold function_of) (told : laws.ToldByEach function_of) where
  schedule_left : (done : List DoneLine) (s : Standing) (end : Scheduled BuiltIn) → DoesAll done (at_first s) end → AreSchedule done (at_first s) end
  schedule_left done s end does =
      let it = lines_are done (at_first s) end does in
      record {
        events = it.events;
        replies = it.replies;
        of_lines = it.are;
        applies = it.applies;
        brings = it.brings;
        leaves = all_left function_of default_options law headline closed late exact taken stand keep answer begins_told told it.events it.replies s end it.fits it.applies;
      }

  module _ {S : Type 0} (g : Ghosts S) (store after : Stored S) (start end : Scheduler BuiltIn S) (store_is : start.store ≡ store) (options_are : start.options ≡ default_options)
      (none_held : start.held ≡ []) (after_is : after ≡ end.store) (done : List DoneLine) (reached : HasRun g done start end) where
    at_start : (s : Standing) → IsStanding g s store → IsAt g (at_first s) start
    at_start s standing = record {
      options = options_are;
      scheduled = record { standing = subst (λ (x : Stored S). IsStanding g s x) (sym store_is) standing; held = sym none_held };
    }

    pub are_done : AreDone g store after done
    are_done = record {
      leads = λ clean s standing.
          let it = reached.reaches.reaches (subst (λ (x : Stored S). HasCleanDisk (state g x.connection)) after_is clean) (at_first s) (at_start s standing) in (
            it.0,
            subst (λ (x : Stored S). IsStanding g it.0.standing x) (sym after_is) it.1.scheduled.standing,
            it.2,
            schedule_left done s it.0 it.2,
          );
      crash = subst (λ (x : Stored S). Endures g (AreCut done) store x) (sym after_is)
          (subst (λ (x : Stored S). Survives (state g x.connection) (state g end.store.connection) (KeepsStanding g (AreCut done) store)) store_is
          (survives_weaker (state g start.store.connection) (state g end.store.connection) (KeepsCut g (DoesFirst done) start) (KeepsStanding g (AreCut done) store)
          (λ clean db it s standing.
          let kept = it (at_first s) (at_start s standing) in
          let cut = cut_of done (at_first s) kept.0 kept.1 in (
            kept.0.standing,
            record { first = cut.first; are_first = cut.are_first; brings = cut.brings; held = kept.0.held; does = cut.does; schedule = schedule_left cut.first s kept.0 cut.does },
            kept.2,
          ))
          reached.reaches.leaves));
      lasts = λ clean trees may.
          elim (reached.lasts (subst (λ (x : Stored S). HasCleanDisk (state g x.connection)) after_is clean) trees (subst (λ (x : Stored S). (state g x.connection).may_leave trees) after_is may)) [
            | inl none ↦ inl (none.0, subst (λ (x : Stored S). (state g x.connection).may_leave trees) store_is none.1)
            | inr keeps ↦ inr (λ s standing. let it = keeps (at_first s) (at_start s standing) in (it.0.standing, (it.0.held, it.1), it.2))
          ];
    }
