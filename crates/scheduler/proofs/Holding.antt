-- Calls on an attempt that is held, or is not.
use Rattle.std.proofs.Common.{◌≡◌, refl, sym, subst, ℕ, Bool, true, false, List, Option, Some, None, IfSome}
use Rattle.std.specs.Borrow.{MutBor}
use Rattle.std.specs.Option.{option_copied_mut, option_map}
use Rattle.sqlite_trees.specs.declared.store.Store.{Ghosts}
use Rattle.journal_model.specs.Notification.{Text}
use Rattle.store_refusals.specs.declared.refusal.Refusal.{Refusal}
use Rattle.schedule_model.specs.declared.event.Event.TheVariants as event
use Rattle.schedule_model.specs.declared.event.Reply.{Reply}
use Rattle.schedule_model.specs.declared.event.Reply.TheVariants as reply
use Rattle.schedule_model.specs.declared.event.EventRefusal.TheVariants as refusal
use Rattle.schedule_model.specs.declared.held.HeldAttempt.{HeldAttempt}
use Rattle.schedule_model.specs.HeldAttempts.{held_of, with_attempt}
use Rattle.schedule_model.specs.Lends.{held_as}
use Rattle.schedule_model.specs.Schedule.{IfHeld, UnlessMismatch}
use Rattle.schedule_model.specs.Attempts.{Attempt}
use Rattle.store_calls.specs.AbstractStore.{Standing}
use Rattle.store_calls.proofs.Taking.{same_stays}
use Rattle.journal_store.specs.StoreView.{Stored}
use Rattle.journal_store.specs.StoreStanding.{Endures, Leads}
use Rattle.journal_store.proofs.Enduring.{endures_so}
use Rattle.scheduler.specs.SchedulerCalls.{LeadsMoved, TellsCauseOf, TellsCauseOfMove}

-- what is done to one that is held
abbrev Changes : Type 0 → Type 1
Changes H = HeldAttempt H → Standing → Reply → Standing → Attempt H → Type 0

-- a turn, by whether its outcome tells a mismatch
module _ {H S : Type 0} (g : Ghosts S) (Change : Changes H) (one : Option (HeldAttempt H)) (held : List (HeldAttempt H)) where
  pub mismatches : (is_mismatch : Bool) → is_mismatch ≡ true → (store : Stored S)
      → Leads g (λ (s t : Standing). UnlessMismatch is_mismatch Change one s held (reply.Refused refusal.JournalMismatchOutcome) t held) store store
  mismatches true is store clean s standing = (s, standing, (refl, same_stays s, refl))
  mismatches false is store clean s standing = absurd cc

  pub unless_mismatch : (is_mismatch : Bool) → is_mismatch ≡ false → (more : List (HeldAttempt H)) (answer : Reply) (old new : Stored S)
      → Leads g (λ (s t : Standing). IfHeld Change one s held answer t more) old new → Leads g (λ (s t : Standing). UnlessMismatch is_mismatch Change one s held answer t more) old new
  unless_mismatch true is more answer old new it = absurd cc
  unless_mismatch false is more answer old new it = it

module _ {H S : Type 0} (g : Ghosts S) (Change : Changes H) (id : Text) (n : ℕ) (held : List (HeldAttempt H)) (told : Option (MutBor (Attempt H)))
    (found : option_map (held_as id n) (option_copied_mut told) ≡ held_of held id n) where
  held_is : (lent : Option (MutBor (Attempt H))) → told ≡ lent → option_map (held_as id n) (option_copied_mut lent) ≡ held_of held id n
  held_is lent is = subst (λ (o : Option (MutBor (Attempt H))). option_map (held_as id n) (option_copied_mut o) ≡ held_of held id n) is found

  -- it is not held
  pub misses : told ≡ None → (store : Stored S) → Leads g (λ (s t : Standing). IfHeld Change (held_of held id n) s held (reply.Refused refusal.AttemptNotHeld) t held) store store
  misses none store clean s standing =
      (s, standing, subst (λ (o : Option (HeldAttempt H)). IfHeld Change o s held (reply.Refused refusal.AttemptNotHeld) s held) (held_is None none) (refl, same_stays s, refl))

  module _ (lent : MutBor (Attempt H)) (is : told ≡ Some lent) where
    changes : (changed : Attempt H) (answer : Reply) (s t : Standing) → Change (held_as id n lent.now) s answer t changed
        → IfHeld Change (held_of held id n) s held answer t (with_attempt held (held_as id n changed) changed)
    changes changed answer s t it =
        subst (λ (o : Option (HeldAttempt H)). IfHeld Change o s held answer t (with_attempt held (held_as id n changed) changed)) (held_is (Some lent) is) (changed, it, refl)

    module _ (old new : Stored S) where
      -- what a move tells of it is told of the one that is held
      pub finds_cause : (count : ℕ) (answer : Reply) (why : Option Refusal) → IfSome why (TellsCauseOfMove g count (held_as id n lent.now) answer old new) → IfSome why (TellsCauseOf g (event.Move id n count) held answer old new)
      finds_cause count answer None told = tt
      finds_cause count answer (Some why) told = (held_as id n lent.now, sym (held_is (Some lent) is), told)

      -- it is changed in its place
      pub finds : (changed : Attempt H) (answer : Reply) → Leads g (λ (s t : Standing). Change (held_as id n lent.now) s answer t changed) old new
          → Leads g (λ (s t : Standing). IfHeld Change (held_of held id n) s held answer t (with_attempt held (held_as id n changed) changed)) old new
      finds changed answer does clean s standing =
          let it = does clean s standing in
          (it.0, it.1, changes changed answer s it.0 it.2)

      -- and what lasts of it
      pub finds_lasting : (changed : Attempt H) (answer : Reply) → LeadsMoved g id n answer (λ (s t : Standing). Change (held_as id n lent.now) s answer t changed) old new
          → LeadsMoved g id n answer (λ (s t : Standing). IfHeld Change (held_of held id n) s held answer t (with_attempt held (held_as id n changed) changed)) old new
      finds_lasting changed answer does clean s standing =
          let it = does clean s standing in
          (it.0, it.1, (changes changed answer s it.0 it.2.0, it.2.1))

      -- where a crash comes
      pub finds_crashed : Endures g (λ (s t : Standing). (answer : Reply) × (changed : Attempt H) × Change (held_as id n lent.now) s answer t changed) old new
          → Endures g (λ (s t : Standing). (answer : Reply) × (more : List (HeldAttempt H)) × IfHeld Change (held_of held id n) s held answer t more) old new
      finds_crashed lives =
          endures_so g (λ (s t : Standing). (answer : Reply) × (changed : Attempt H) × Change (held_as id n lent.now) s answer t changed)
          (λ (s t : Standing). (answer : Reply) × (more : List (HeldAttempt H)) × IfHeld Change (held_of held id n) s held answer t more) old new
          (λ s t it. (it.0, with_attempt held (held_as id n it.1) it.1, changes it.1 it.0 s t it.2)) lives
