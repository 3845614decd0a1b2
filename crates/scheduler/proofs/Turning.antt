-- A turn whose body is executed when it is asked for.
use Rattle.std.proofs.Common.{◌≡◌, refl, sym, subst, ◌∙◌, ℕ, Option, Some, None, Ok, Err}
use Rattle.std.specs.Borrow.{MutBor}
use Rattle.std.specs.Option.{option_copied_mut, option_map}
use Rattle.sqlite_trees.specs.declared.store.Store.{Ghosts}
use Rattle.journal_model.specs.Notification.{Text}
use Rattle.journal_model.specs.Run.{Handler}
use Rattle.schedule_model.specs.Attempts.{Attempt, Turn}
use Rattle.schedule_model.specs.Executing.{Execution, TurnsWith}
use Rattle.schedule_model.specs.HeldAttempts.{held_of, with_attempt}
use Rattle.schedule_model.specs.Lends.{held_as}
use Rattle.schedule_model.specs.Outcomes.{tells_mismatch}
use Rattle.schedule_model.specs.Schedule.{TurnsOne}
use Rattle.schedule_model.specs.declared.event.Event.TheVariants as event
use Rattle.schedule_model.specs.declared.event.EventRefusal.TheVariants as refusal
use Rattle.schedule_model.specs.declared.event.Reply.TheVariants as reply
use Rattle.schedule_model.proofs.Executing.{nothing}
use Rattle.store_calls.proofs.Taking.{same_stays}
use Rattle.scheduler.specs.declared.scheduler.Scheduler.{Scheduler}
use Rattle.scheduler.specs.Loop.{TurnsAsking}
use Rattle.scheduler.proofs.Holding.{finds, misses, unless_mismatch}
use Rattle.scheduler.proofs.Scheduling.{performs_quiet, performs_unheld, same_quiet, spares_taken_up}

module _ {H S E : Type 0} (g : Ghosts S) (Executes : Execution E) (function : H → Handler) (id : Text) (n : ℕ) (old : Scheduler H S) (told : Option (MutBor (Attempt H)))
    (found : option_map (held_as id n) (option_copied_mut told) ≡ held_of old.held id n) where
  -- nobody holds it
  pub not_held : told ≡ None → (e : E) → TurnsAsking g Executes function id n (Err refusal.AttemptNotHeld) old e old e
  not_held none e = record {
    ran = nothing;
    performs = performs_unheld g function (event.Turn id n nothing) old (λ never. never) tt tt refl
        (unless_mismatch g (TurnsOne function nothing) (held_of old.held id n) old.held (tells_mismatch nothing) refl old.held (reply.Refused refusal.AttemptNotHeld) old.store old.store
        (misses g (TurnsOne function nothing) id n old.held told found none old.store));
    asks = refl;
  }

  -- it makes its turn
  pub turned : (lent : MutBor (Attempt H)) → told ≡ Some lent → (changed : Attempt H) (turn : Turn) (e f : E) → TurnsWith Executes function id lent.now e turn changed f
      → TurnsAsking g Executes function id n (Ok turn) old e (record old { held = with_attempt old.held (held_as id n changed) changed }) f
  turned lent is changed turn e f turns = record {
    ran = turns.ran;
    performs = performs_quiet g function (event.Turn id n turns.ran) old (reply.Turned turn) _ (λ never. never) refl tt tt (spares_taken_up _ _ _ tt) refl (same_quiet g old.store) tt
        (unless_mismatch g (TurnsOne function turns.ran) (held_of old.held id n) old.held (tells_mismatch turns.ran) turns.taken _ (reply.Turned turn) old.store old.store
        (finds g (TurnsOne function turns.ran) id n old.held told found lent is old.store old.store changed (reply.Turned turn)
        (λ clean s standing. (s, standing, (turns.turns, same_stays s)))));
    asks = (held_as id n lent.now, changed, there, refl, turns.asks);
  }
    where
      there : held_of old.held id n ≡ Some (held_as id n lent.now)
      there = sym found ∙ subst (λ (o : Option (MutBor (Attempt H))). option_map (held_as id n) (option_copied_mut o) ≡ Some (held_as id n lent.now)) (sym is) refl
