-- Turns, one behind another.
use Rattle.std.proofs.Common.{◌≡◌, ℕ, suc, ◌+◌, ◌≤◌, true, Option, IsSome, refl, sym, ap, subst, ◌∙◌, add-one, inl, inr}
use Rattle.sqlite_trees.specs.declared.store.Store.{Ghosts}
use Rattle.built_in_handlers.specs.declared.built_in.BuiltIn.{BuiltIn}
use Rattle.journal_model.specs.Notification.{Text}
use Rattle.scheduler.specs.declared.scheduler.Scheduler.{Scheduler}
use Rattle.durable_schedule.specs.Schedules.{Reply, Scheduled}
use Rattle.script_lines.specs.declared.outcome.LineOutcome.{LineOutcome}
use Rattle.durable_script.specs.Line.{goes_on, turn_event, AppliesOne, TakesTurn, TurnsGoOn, TookTurns}
use Rattle.durable_script.specs.ReplyTexts.{refused_memory}
use Rattle.durable_script.specs.SchedulerChanges.{Reaches, Nowhere}
use Rattle.durable_script.proofs.SchedulerChanges.{Promised, reaches_none, reaches_so, reaches_then, reaches_turned}

module _ {S : Type 0} (g : Ghosts S) (id : Text) (attempt : ℕ) (outcome : Option LineOutcome) where
  -- a turn is taken
  pub turn_taken : (answer : Reply) (old new : Scheduler BuiltIn S) → new.store ≡ old.store → Promised g (turn_event id attempt outcome) answer old new → new.options ≡ old.options
      → Reaches g Nowhere (TakesTurn id attempt outcome answer) old new
  turn_taken answer old new same does options =
      reaches_so g Nowhere Nowhere (AppliesOne (turn_event id attempt outcome) answer) (TakesTurn id attempt outcome answer) old new (λ x y none. none) (λ x y p. inl p)
      (reaches_turned g (turn_event id attempt outcome) answer old new same does tt options)

  -- or none, where memory was refused
  pub turn_not_taken : (answer : Reply) (old : Scheduler BuiltIn S) → IsSome outcome → answer ≡ refused_memory → Reaches g Nowhere (TakesTurn id attempt outcome answer) old old
  turn_not_taken answer old given is = reaches_none g Nowhere (TakesTurn id attempt outcome answer) old (λ s. inr (given, is, refl))

  module _ (start now new : Scheduler BuiltIn S) (before : ℕ) (gone_on : Reaches g Nowhere (TurnsGoOn id attempt outcome before) start now) (last : Reply)
      (takes : Reaches g Nowhere (TakesTurn id attempt outcome last) now new) where
    -- the last one
    pub turned_last : (asked taken : ℕ) → taken ≡ before + 1 → taken ≤ asked → (goes_on last ≡ true → taken ≡ asked) → Reaches g Nowhere (TookTurns id attempt asked outcome taken last) start new
    turned_last asked taken are within all =
        reaches_then g Nowhere Nowhere Nowhere (TurnsGoOn id attempt outcome before) (TakesTurn id attempt outcome last) (TookTurns id attempt asked outcome taken last) start now new
        (λ x y none. none) (λ x y z p none. none)
        (λ x y z p q. record { before = before; between = y; gone_on = p; takes = q; taken_are = are; within = within; all = all }) gone_on takes

    -- memory was not refused for a turn behind which there is another
    applied : goes_on last ≡ true → (x y : Scheduled BuiltIn) → TakesTurn id attempt outcome last x y → AppliesOne (turn_event id attempt outcome) last x y
    applied was x y takes = elim takes [
      | inl applies ↦ applies
      | inr none ↦ absurd (cc (was, ap goes_on none.1))
    ]

    -- one more behind which there is another
    pub turned_more : (taken : ℕ) → taken ≡ before + 1 → goes_on last ≡ true → Reaches g Nowhere (TurnsGoOn id attempt outcome taken) start new
    turned_more taken are was =
        subst (λ (n : ℕ). Reaches g Nowhere (TurnsGoOn id attempt outcome n) start new) (sym (are ∙ add-one before))
        (reaches_then g Nowhere Nowhere Nowhere (TurnsGoOn id attempt outcome before) (TakesTurn id attempt outcome last) (TurnsGoOn id attempt outcome (suc before)) start now new
        (λ x y none. none) (λ x y z p none. none)
        (λ x y z p q. (y, p, record { answer = last; another = was; applies = applied was y z q })) gone_on takes)
