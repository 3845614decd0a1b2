-- How calls find the attempts that are held, and how schedules grow.
use Rattle.std.specs.Prelude.{◌≡◌, ℕ, List, [], ◌∷◌, ◌++◌, get_or, Some, None, slice_set}
use Rattle.std.specs.List.{position}
use Rattle.journal_model.specs.Notification.{Text}
use Rattle.journal_model.specs.Run.{Handler}
use Rattle.vm_types.specs.declared.options.VMOptions.{VMOptions}
use Rattle.vm_attempt.specs.declared.attempt.Attempt.{Attempt}
use Rattle.vm_attempt.specs.declared.run_outcome.RunOutcome.{RunOutcome}
use Rattle.schedule_model.specs.declared.event.Event.{Event}
use Rattle.schedule_model.specs.declared.event.Reply.{Reply}
use Rattle.schedule_model.specs.declared.held.HeldAttempt.{HeldAttempt}
use Rattle.store_calls.specs.AbstractStore.{Standing}
use Rattle.schedule_model.specs.HeldAttempts.{is_held, held_of}
use Rattle.schedule_model.specs.Schedule.{IfHeld, FeedsOne, ClosesOne, MovesOne, TurnsOne, Scheduled, Applies, AppliesAll}

module _ (H : Type 0) where
  -- an attempt that stands at no place is not held
  abbrev pub NoneHeld : Type 0
  NoneHeld = (id : Text) (n : ℕ) (held : List (HeldAttempt H)) → position (is_held id n) held ≡ None → held_of held id n ≡ None

module _ {H : Type 0} where
  -- what is done to the attempt at its place is done to the one that is held
  abbrev pub Reaches : (HeldAttempt H → Standing → Reply → Standing → Attempt H → Type 0) → Type 0
  Reaches Does = (id : Text) (n : ℕ) (held : List (HeldAttempt H)) (place : ℕ) (one changed : HeldAttempt H) (old new : Standing) (answer : Reply)
      → position (is_held id n) held ≡ Some place → one ≡ get_or held place one → changed ≡ record one { attempt = changed.attempt } → Does one old answer new changed.attempt
      → IfHeld Does (held_of held id n) old held answer new (slice_set held place changed)

module _ (H : Type 0) where
  abbrev pub FeedsReach : Type 0
  FeedsReach = (count : ℕ) → Reaches {H = H} (FeedsOne count)

  abbrev pub ClosesReach : Type 0
  ClosesReach = Reaches {H = H} ClosesOne

  abbrev pub MovesReach : Type 0
  MovesReach = (count : ℕ) → Reaches {H = H} (MovesOne count)

module _ {H : Type 0} (function : H → Handler) where
  abbrev pub TurnsReach : Type 0
  TurnsReach = (outcome : RunOutcome) → Reaches (TurnsOne function outcome)

  -- one more event behind a schedule's
  abbrev pub SchedulesGrow : Type 0
  SchedulesGrow = (options : VMOptions) (events : List (Event H)) (replies : List Reply) (old between new : Scheduled H) (one : Event H) (answer : Reply)
      → AppliesAll function options events replies old between → Applies function options one answer between new
      → AppliesAll function options (events ++ one ∷ []) (replies ++ answer ∷ []) old new
