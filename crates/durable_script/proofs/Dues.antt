-- What is shown of the invocations that are due.
use Rattle.std.proofs.Common.{◌≡◌, ℕ, List, [], ◌∷◌, ◌++◌, refl, ap, inl, inr}
use Rattle.sqlite_trees.specs.declared.store.Store.{Ghosts}
use Rattle.sqlite.specs.Held.{state}
use Rattle.sqlite.specs.State.{HasCleanDisk}
use Rattle.built_in_handlers.specs.declared.built_in.BuiltIn.{BuiltIn}
use Rattle.journal_model.specs.Event.{Event}
use Rattle.journal_model.specs.Attempt.{due}
use Rattle.store_refusals.specs.declared.refusal.Refusal.{Refusal}
use Rattle.store_refusals.specs.Names.{refusal_name_of}
use Rattle.store_refusals.specs.RefusalConditions.{IsRefused}
use Rattle.journal_store.specs.StoreStanding.{IsQuiet}
use Rattle.scheduler.specs.declared.scheduler.Scheduler.{Scheduler}
use Rattle.scheduler.specs.SchedulerCalls.{IsScheduled}
use Rattle.durable_schedule.specs.Schedules.{Scheduled}
use Rattle.script_lines.specs.Text.{due_line, refused_text}
use Rattle.durable_script.specs.SchedulerChanges.{Reaches, Nowhere}
use Rattle.durable_script.specs.ShowLines.{ShowsOnly, ShowsDue}
use Rattle.durable_script.proofs.SchedulerChanges.{reaches_so, reaches_told}

-- these are due
abbrev AreDue : List (List ℕ) → List Event → Type 0
AreDue ids events = ids ≡ due events

-- it is not told which are, for a circumstance
abbrev AreNotTold : Refusal → List Event → Type 0
AreNotTold why events = IsRefused [] why

module _ {S : Type 0} (g : Ghosts S) (a b : Scheduler BuiltIn S) (quiet : IsQuiet g a.store b.store) (kept : b ≡ record a { store = b.store }) where
  pub due_printed : (ids : List (List ℕ)) → (HasCleanDisk (state g b.store.connection) → (s : Scheduled BuiltIn) → IsScheduled g s a → AreDue ids s.standing.events × IsScheduled g s b)
      → Reaches g Nowhere (ShowsOnly (ShowsDue (due_line ids ++ 10 ∷ []))) a b
  due_printed ids tells =
      reaches_so g Nowhere Nowhere (ShowsOnly (AreDue ids)) (ShowsOnly (ShowsDue (due_line ids ++ 10 ∷ []))) a b (λ x y none. none)
      (λ x y p. (inl (ap (λ (ids : List (List ℕ)). due_line ids ++ 10 ∷ []) p.0), p.1)) (reaches_told g (AreDue ids) a b quiet tells kept)

  pub no_due_printed : (why : Refusal) → (HasCleanDisk (state g b.store.connection) → (s : Scheduled BuiltIn) → IsScheduled g s a → AreNotTold why s.standing.events × IsScheduled g s b)
      → Reaches g Nowhere (ShowsOnly (ShowsDue (refused_text (refusal_name_of why) ++ 10 ∷ []))) a b
  no_due_printed why tells =
      reaches_so g Nowhere Nowhere (ShowsOnly (AreNotTold why)) (ShowsOnly (ShowsDue (refused_text (refusal_name_of why) ++ 10 ∷ []))) a b (λ x y none. none)
      (λ x y p. (inr (why, p.0, refl), p.1)) (reaches_told g (AreNotTold why) a b quiet tells kept)
