-- What a scheduler's calls do to what it stands for.
use Rattle.std.proofs.Common.{◌≡◌, refl, sym, ap, subst, ◌∙◌, ℕ, List, None, Result, Ok, Err, OnOk, IfErr, IfSome, inl, inr, arith}
use Rattle.sqlite_trees.specs.declared.store.Store.{Ghosts}
use Rattle.sqlite.specs.Held.{state}
use Rattle.sqlite.specs.State.{State, HasCleanDisk}
use Rattle.journal_model.specs.Notification.{Text}
use Rattle.journal_model.specs.Run.{Handler}
use Rattle.vm_types.specs.declared.options.VMOptions.{VMOptions}
use Rattle.store_live.specs.Attempts.{Attempts}
use Rattle.store_refusals.specs.declared.refusal.Refusal.{Refusal}
use Rattle.store_refusals.specs.declared.refusal.Refusal.TheVariants.{OutOfMemory}
use Rattle.journal_store.specs.StoreView.{Stored}
use Rattle.journal_store.specs.StoreStanding.{Stands, Leads, Endures, EnduresAlways, IsQuiet, Outlasts, Settles, output_of}
use Rattle.schedule_model.specs.declared.event.Event.{Event}
use Rattle.schedule_model.specs.declared.event.Event.TheVariants as event
use Rattle.schedule_model.specs.declared.event.Reply.{Reply}
use Rattle.schedule_model.specs.declared.event.Reply.TheVariants as reply
use Rattle.schedule_model.specs.declared.event.EventRefusal.TheVariants as refusal
use Rattle.schedule_model.specs.declared.held.HeldAttempt.{HeldAttempt}
use Rattle.store_calls.specs.AbstractStore.{Standing}
use Rattle.schedule_model.specs.Schedule.{Scheduled, Does, Applies}
use Rattle.schedule_model.specs.ArgumentBounds.{FitsEvent}
use Rattle.scheduler.specs.declared.scheduler.Scheduler.{Scheduler}
use Rattle.scheduler.specs.SchedulerCalls.{IsScheduled, IsEventWritten, OutlastsEvent, AppliesWith, CommitsNothing, IsTakenUp, LastsBy, LeadsBy, Performs, Spares, SparesWhere, TakesLive, TellsCauseOf, refusal_told, reply_to}
use Rattle.scheduler.proofs.Replying.{told_refused}
use Rattle.journal_store.specs.Attempts.{BeginsSome}
use Rattle.journal_store.proofs.Enduring.{always_endures, endures_so, quiet_endures}

module _ {H S : Type 0} (g : Ghosts S) where
  -- what is done to a store and to what is held is done to a scheduler
  led : (old new : Scheduler H S) (Relation : Standing → List (HeldAttempt H) → Standing → List (HeldAttempt H) → Type 0)
      → Leads g (λ (s t : Standing). Relation s old.held t new.held) old.store new.store
      → HasCleanDisk (state g new.store.connection) → (from : Scheduled H) → IsScheduled g from old
      → (to : Scheduled H) × IsScheduled g to new × Relation from.standing from.held to.standing to.held
  led old new Relation does clean from is =
      let it = does clean from.standing is.standing in (
        record { standing = it.0; held = new.held },
        record { standing = it.1; held = refl },
        subst (λ (held : List (HeldAttempt H)). Relation from.standing held it.0 new.held) (sym is.held) it.2,
      )

  -- a read leaves what it stands for
  pub read_still : (s : Scheduled H) (old : Scheduler H S) (store : Stored S) → IsScheduled g s old → Stands s.standing.events (state g store.connection) store.live.attempts
      → store.live ≡ old.store.live → IsScheduled g s (record old { store = store })
  read_still s old store is stands live = record {
    standing = record { stands = stands; outputs = λ id. is.standing.outputs id ∙ ap (λ (l : Attempts). output_of l.attempts id) (sym live) };
    held = is.held;
  }

-- nothing was done to a store
pub same_quiet : {S : Type 0} (g : Ghosts S) (store : Stored S) → IsQuiet g store store
same_quiet g store = record { clean = omega arith; shield = λ it. it; counts = omega arith; limit = refl; closes = λ clean is_open. inl is_open; crash = λ clean db may. inl may }

-- ---- an event

-- where it is refused before the store is asked, all is as it was
pub record SparesAtOnce {H S : Type 0} (answer : Reply) (old new : Scheduler H S) : Type 0 where
  pub unheld : SparesWhere refusal.AttemptNotHeld answer old new
  pub mismatch : SparesWhere refusal.JournalMismatchOutcome answer old new

-- what was not refused so asks nothing
pub spares_taken_up : {H S : Type 0} (answer : Reply) (old new : Scheduler H S) → IsTakenUp answer → SparesAtOnce answer old new
spares_taken_up answer old new taken = record { unheld = λ is. absurd (subst IsTakenUp is taken); mismatch = λ is. absurd (subst IsTakenUp is taken) }

pub spares_all : {H S : Type 0} (g : Ghosts S) (one : Event H) (answer : Reply) (old new : Scheduler H S) → SparesAtOnce answer old new → CommitsNothing g one old.store new.store → Spares g one answer old new
spares_all g one answer old new refused nothing = record { unheld = refused.unheld; mismatch = refused.mismatch; quiet = nothing }

module _ {H S : Type 0} (g : Ghosts S) (function : H → Handler) where
  -- it was applied to what the scheduler stood for
  pub applied : (old new : Scheduler H S) (one : Event H) (answer : Reply) → LeadsBy g function one answer old new → HasCleanDisk (state g new.store.connection) → (from : Scheduled H) → IsScheduled g from old
      → (to : Scheduled H) × IsScheduled g to new × Applies function old.options one answer from to
  applied old new one answer does = led g old new (λ s held t more. Does function old.options one s held answer t more) does

  -- and what is written of it lasts
  pub applied_lasting : (old new : Scheduler H S) (one : Event H) (answer : Reply) → LastsBy g function one answer old new → HasCleanDisk (state g new.store.connection) → (from : Scheduled H) → IsScheduled g from old
      → (to : Scheduled H) × IsScheduled g to new × Applies function old.options one answer from to × OutlastsEvent one answer to.standing (state g new.store.connection)
  applied_lasting old new one answer lasts clean from is =
      let it = led g old new (λ s held t more. Does function old.options one s held answer t more × OutlastsEvent one answer t (state g new.store.connection)) lasts clean from is in
      (it.0, it.1, it.2.0, it.2.1)

  module _ (one : Event H) (old : Scheduler H S) where
    -- nothing of it is written
    pub performs_quiet : (answer : Reply) (new : Scheduler H S) → (IsEventWritten one answer → ⊥) → new.options ≡ old.options → FitsEvent one → TakesLive one answer old.store → SparesAtOnce answer old new
        → CommitsNothing g one old.store new.store → IsQuiet g old.store new.store → IfSome (refusal_told answer) (TellsCauseOf g one old.held answer old.store new.store) → LeadsBy g function one answer old new
        → Performs g function one answer old new
    performs_quiet answer new never options fits live spares nothing quiet cause does = record {
      does = does;
      lasts = λ written. absurd (never written);
      options = options;
      fits = fits;
      live = live;
      spares = spares_all g one answer old new spares nothing;
      cause = cause;
      crash = quiet_endures g (AppliesWith function old.options one old.held) old.store new.store quiet;
    }

    -- all is as it was
    performs_nothing : (answer : Reply) → (IsEventWritten one answer → ⊥) → FitsEvent one → TakesLive one answer old.store → CommitsNothing g one old.store old.store
        → IfSome (refusal_told answer) (TellsCauseOf g one old.held answer old.store old.store) → LeadsBy g function one answer old old → Performs g function one answer old old
    performs_nothing answer never fits live nothing cause does =
        performs_quiet answer old never refl fits live (record { unheld = λ is. refl; mismatch = λ is. refl }) nothing (same_quiet g old.store) cause does

    -- nobody holds the attempt that it names
    pub performs_unheld : (IsEventWritten one (reply.Refused refusal.AttemptNotHeld) → ⊥) → FitsEvent one → TakesLive one (reply.Refused refusal.AttemptNotHeld) old.store → CommitsNothing g one old.store old.store
        → LeadsBy g function one (reply.Refused refusal.AttemptNotHeld) old old → Performs g function one (reply.Refused refusal.AttemptNotHeld) old old
    performs_unheld never fits live nothing does = performs_nothing (reply.Refused refusal.AttemptNotHeld) never fits live nothing tt does

    -- the outcome of a turn tells a mismatch
    pub performs_mismatch : (IsEventWritten one (reply.Refused refusal.JournalMismatchOutcome) → ⊥) → FitsEvent one → TakesLive one (reply.Refused refusal.JournalMismatchOutcome) old.store → CommitsNothing g one old.store old.store
        → LeadsBy g function one (reply.Refused refusal.JournalMismatchOutcome) old old → Performs g function one (reply.Refused refusal.JournalMismatchOutcome) old old
    performs_mismatch never fits live nothing does = performs_nothing (reply.Refused refusal.JournalMismatchOutcome) never fits live nothing tt does

    -- where a crash comes into it
    pub crashes : (P : Standing → Standing → Type 0) (store : Stored S) → ((s t : Standing) → P s t → AppliesWith function old.options one old.held s t) → EnduresAlways g P old.store store
        → Endures g (AppliesWith function old.options one old.held) old.store store
    crashes P store so lives = endures_so g P (AppliesWith function old.options one old.held) old.store store so (always_endures g P old.store store lives)

    -- the store alone does it, and tells what it did
    module _ {A : Type 0} (store : Stored S) (says : A → Reply) (Did : Result A Refusal → Standing → Standing → Type 0)
        (so : (told : Result A Refusal) (s t : Standing) → Did told s t → Does function old.options one s old.held (reply_to says told) t old.held) (taken : (done : A) → IsTakenUp (says done)) (silent : (done : A) → refusal_told (says done) ≡ None) where
      abbrev new : Scheduler H S
      new = record old { store = store }

      pub stored_leads : (told : Result A Refusal) → Leads g (Did told) old.store store → LeadsBy g function one (reply_to says told) old new
      stored_leads told does clean s is =
          let it = does clean s is in
          (it.0, it.1, so told s it.0 it.2)

      pub stored_spares : (told : Result A Refusal) → SparesAtOnce (reply_to says told) old new
      stored_spares (Ok done) = spares_taken_up (says done) old new (taken done)
      stored_spares (Err why) = spares_taken_up (reply.Refused (refusal.Store why)) old new tt

      module _ (never : (why : Refusal) → IsEventWritten one (reply.Refused (refusal.Store why)) → ⊥)
          (outlasts : (answer : Reply) (t : Standing) (database : State) → Outlasts t.events database → OutlastsEvent one answer t database) where
        stored_lasts : (told : Result A Refusal) → OnOk told (Settles g (Did told) old.store store) → IsEventWritten one (reply_to says told) → LastsBy g function one (reply_to says told) old new
        stored_lasts (Ok done) settled written clean s is =
            let it = settled clean s is in
            (it.0, it.1, (so (Ok done) s it.0 it.2, outlasts (says done) it.0 (state g store.connection) it.3))
        stored_lasts (Err why) settled written clean s is = absurd (never why written)

        pub performs_stored : FitsEvent one → ((answer : Reply) → TakesLive one answer old.store) → CommitsNothing g one old.store store → Endures g (AppliesWith function old.options one old.held) old.store store
            → (told : Result A Refusal) → Leads g (Did told) old.store store → OnOk told (Settles g (Did told) old.store store) → IfErr told (TellsCauseOf g one old.held (reply_to says told) old.store store)
            → Performs g function one (reply_to says told) old new
        performs_stored fits live nothing crash told does settled cause = record {
          does = stored_leads told does;
          lasts = stored_lasts told settled;
          options = refl;
          fits = fits;
          live = live (reply_to says told);
          spares = spares_all g one (reply_to says told) old new (stored_spares told) nothing;
          cause = told_refused says (TellsCauseOf g one old.held (reply_to says told) old.store store) silent told cause;
          crash = crash;
        }

module _ {H : Type 0} (function : H → Handler) (options : VMOptions) where
  -- a begin of which the answer is not known
  pub begins_with : (id : Text) (handler : H) (now : ℕ) (held : List (HeldAttempt H)) (s t : Standing) → BeginsSome id now s t → AppliesWith function options (event.Begin id handler now) held s t
  begins_with id handler now held s t it = (reply.Refused (refusal.Store OutOfMemory), held, inr (it.0, refl, it.1, refl))
