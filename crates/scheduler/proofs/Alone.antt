-- An invocation is gone on with by an attempt of its own: whether it was begun, held, or neither.
use Rattle.std.proofs.Common.{◌≡◌, refl, sym, ap, subst, ◌∙◌, ℕ, arith, List, [], ◌∷◌, Result, Err, inl, inr}
use Rattle.sqlite_trees.specs.declared.store.Store.{Ghosts}
use Rattle.sqlite.specs.Held.{state}
use Rattle.sqlite.specs.State.{HasCleanDisk}
use Rattle.journal_model.specs.Notification.{Text}
use Rattle.journal_model.specs.Run.{Handler}
use Rattle.store_refusals.specs.declared.refusal.Refusal.{Refusal}
use Rattle.store_refusals.specs.declared.refusal.Refusal.TheVariants.{OutOfMemory}
use Rattle.store_calls.specs.AbstractStore.{Standing}
use Rattle.store_calls.specs.Calls.{BeginsAttempt, Stops}
use Rattle.journal_store.specs.StoreView.{Stored}
use Rattle.journal_store.specs.StoreStanding.{Endures, IsQuiet, Leads}
use Rattle.journal_store.proofs.Enduring.{endures_on, quiet_endures, same_endures}
use Rattle.schedule_model.specs.Executing.{Execution}
use Rattle.schedule_model.specs.declared.event.Event.{Event}
use Rattle.schedule_model.specs.declared.event.Event.TheVariants as event
use Rattle.schedule_model.specs.declared.event.EventRefusal.{EventRefusal}
use Rattle.schedule_model.specs.declared.event.EventRefusal.TheVariants as refusal
use Rattle.schedule_model.specs.declared.event.Reply.TheVariants as reply
use Rattle.schedule_model.specs.declared.held.HeldAttempt.{HeldAttempt}
use Rattle.schedule_model.specs.Schedule.{Does}
use Rattle.scheduler.specs.declared.outcome.Outcome.{Outcome}
use Rattle.scheduler.specs.declared.scheduler.Scheduler.{Scheduler}
use Rattle.scheduler.specs.Begins.{BeginsNumber}
use Rattle.scheduler.specs.Loop.{all_turns, AppliesBeginning, GoesAlone, GoesOn, IsAttempt, IsFed, PerformsSome, Rest, Stopping}
use Rattle.scheduler.specs.SchedulerCalls.{Performs}
use Rattle.scheduler.proofs.Left.{begun_held, last_begun, none_stopped, run_left}
use Rattle.scheduler.proofs.Looping.{all_applied, all_endure, all_options}

module _ {H S E : Type 0} (g : Ghosts S) (Executes : Execution E) (function : H → Handler) (id : Text) (handler : H) (now : ℕ) where
  abbrev Attempting : Rest H
  Attempting = IsAttempt id handler now

  abbrev Begin : Event H
  Begin = event.Begin id handler now

  -- memory is refused for a copy of the id
  pub not_copied : (why : EventRefusal) (a : Scheduler H S) (e : E) → why ≡ refusal.Store OutOfMemory → GoesAlone g Executes function id Attempting (Outcome.Refused why) a e a e
  not_copied why a e is = record {
    behind = a;
    did = record { events = []; replies = []; asked = inr (refl, refl, ap (λ (w : EventRefusal). Outcome.Refused w) is); performs = (refl, refl) };
    options = refl;
    applies = λ clean s standing. (s, standing, record { behind = record { standing = s; held = a.held }; applies = refl; leaves = inl refl; left = inr refl });
    crash = same_endures g (AppliesBeginning function a.options [] a.held) a.store;
  }

  -- one event, which is refused
  module _ (why : Refusal) (a b : Scheduler H S) (e : E) (does : Performs g function Begin (reply.Refused (refusal.Store why)) a b) where
    abbrev Refused : Outcome
    Refused = Outcome.Refused (refusal.Store why)

    abbrev only : PerformsSome g Executes function Attempting Refused a e b e
    only = record {
      events = Begin ∷ [];
      replies = reply.Refused (refusal.Store why) ∷ [];
      asked = inl (refl, (refl, refl, refl));
      performs = (b, e, does, refl, (refl, refl));
    }

    abbrev Firsts : Standing → Standing → Type 0
    Firsts = AppliesBeginning function a.options (Begin ∷ []) a.held

    only_endures : Endures g Firsts a.store b.store
    only_endures = all_endure g Executes function (Begin ∷ []) (reply.Refused (refusal.Store why) ∷ []) a b e e (b, e, does, refl, (refl, refl))

    -- the store has refused it
    pub not_begun : b ≡ record a { store = b.store } → Leads g (BeginsAttempt id now (Err why)) a.store b.store → GoesAlone g Executes function id Attempting Refused a e b e
    not_begun others leads = record {
      behind = b;
      did = only;
      options = does.options;
      applies = λ clean s standing.
          let it = leads clean s standing in (
            it.0,
            it.1,
            record {
              behind = record { standing = it.0; held = a.held };
              applies = (record { standing = it.0; held = a.held }, inl (it.2, refl), refl);
              leaves = inl refl;
              left = inr it.2.stays.events;
            },
          );
      crash = only_endures;
    }

    -- or there is no memory for it, and it is stopped in the store
    module _ (n : ℕ) (memory : why ≡ OutOfMemory) (others : b ≡ record a { store = b.store }) (leads : Leads g (BeginsNumber id now n) a.store b.store)
        (result : Result (Unit {0}) Refusal) (store : Stored S) (stops : Leads g (Stops id n result) b.store store) (quiet : IsQuiet g b.store store) where
      abbrev after : Scheduler H S
      after = record b { store = store }

      unheld_endures : Endures g Firsts a.store store
      unheld_endures =
          endures_on g Firsts (λ s t. Does function a.options Begin s a.held (reply.Refused (refusal.Store why)) t b.held) (λ s t. ⊥) Firsts a.store b.store store (λ s t it. it)
          (λ s m t did none. absurd none) only_endures does.does (quiet_endures g (λ s t. ⊥) b.store store quiet)

      pub unheld : GoesAlone g Executes function id Attempting Refused a e after e
      unheld = record {
        behind = b;
        did = only;
        options = does.options;
        applies = λ clean s standing.
            let early : HasCleanDisk (state g b.store.connection) = omega (arith, quiet.clean, clean) in
            let it = leads early s standing in
            let begun = it.2.0 in
            let end = stops clean it.0 it.1 in (
              end.0,
              end.1,
              record {
                behind = record { standing = it.0; held = a.held };
                applies = (record { standing = it.0; held = a.held }, inr (begun, memory, it.2.2, refl), refl);
                leaves = inr (ap (λ (w : Refusal). Outcome.Refused (refusal.Store w)) memory, n, result, end.2);
                left = inl (none_stopped id n result it.0 end.0 (last_begun id now begun s it.0 it.2.2 ∙ it.2.1) end.2);
              },
            );
        crash = unheld_endures;
      }

  -- it is begun and held, and runs
  pub numbered : (n : ℕ) (told : Outcome) (a b c : Scheduler H S) (e f : E) → a.held ≡ [] → Performs g function Begin (reply.Begun n) a b
      → PerformsSome g Executes function (Stopping id n (IsFed id n all_turns)) told b e c f → GoesAlone g Executes function id Attempting told a e c f
  numbered n told a b c e f empty does run = record {
    behind = c;
    did = record { events = Begin ∷ run.events; replies = reply.Begun n ∷ run.replies; asked = inl (refl, run.asked); performs = (b, e, does, refl, run.performs) };
    options = all_options g Executes function (Begin ∷ run.events) (reply.Begun n ∷ run.replies) a c e f (b, e, does, refl, run.performs);
    applies = λ clean s standing.
        let it = all_applied g Executes function (Begin ∷ run.events) (reply.Begun n ∷ run.replies) a c e f (b, e, does, refl, run.performs) clean (record { standing = s; held = a.held })
        (record { standing = standing; held = refl }) in (
          it.0.standing,
          it.1.standing,
          record {
            behind = it.0;
            applies = it.2;
            leaves = inl refl;
            left = inl (run_left function a.options id n all_turns run.events run.replies told it.2.0 it.0 run.asked
                (begun_held function a.options id n handler now (record { standing = s; held = a.held }) it.2.0 empty it.2.1) it.2.2);
          },
        );
    crash = all_endure g Executes function (Begin ∷ run.events) (reply.Begun n ∷ run.replies) a c e f (b, e, does, refl, run.performs);
  }

module _ {H S E : Type 0} (g : Ghosts S) (Executes : Execution E) (function : H → Handler) (id : Text) (Asked : Rest H) where
  -- what was held before is held again
  pub goes_on : (told : Outcome) (old a b new : Scheduler H S) (e f : E) (others : List (HeldAttempt H)) → others ≡ old.held → a ≡ record old { held = [] }
      → (a.held ≡ [] → GoesAlone g Executes function id Asked told a e b f) → new ≡ record b { held = others } → GoesOn g Executes function id Asked told old e new f
  goes_on told old a b new e f others kept before goes after = record {
    more = b.held;
    alone = subst (λ (s : Scheduler H S). GoesAlone g Executes function id Asked told (record old { held = [] }) e (record s { held = b.held }) f) (sym after)
        (subst (λ (s : Scheduler H S). GoesAlone g Executes function id Asked told s e b f) before (goes (ap (λ (s : Scheduler H S). s.held) before)));
    held = ap (λ (s : Scheduler H S). s.held) after ∙ kept;
  }
