-- What is shown of the state of an object.
use Rattle.std.proofs.Common.{◌≡◌, ℕ, List, [], ◌∷◌, ◌++◌, map, refl, ap, ◌∙◌, inl, inr}
use Rattle.std.specs.Prelude.{codes}
use Rattle.sqlite_trees.specs.declared.store.Store.{Ghosts}
use Rattle.sqlite.specs.Held.{state}
use Rattle.sqlite.specs.State.{HasCleanDisk}
use Rattle.built_in_handlers.specs.declared.built_in.BuiltIn.{BuiltIn}
use Rattle.journal_model.specs.Notification.{Text}
use Rattle.journal_model.specs.Event.{Event}
use Rattle.journal_model.specs.Journal.{object_state}
use Rattle.store_refusals.specs.declared.refusal.Refusal.{Refusal}
use Rattle.store_refusals.specs.Names.{refusal_name_of}
use Rattle.store_refusals.specs.RefusalConditions.{IsRefused}
use Rattle.journal_store.specs.StoreStanding.{IsQuiet}
use Rattle.scheduler.specs.declared.scheduler.Scheduler.{Scheduler}
use Rattle.scheduler.specs.SchedulerCalls.{IsScheduled}
use Rattle.durable_schedule.specs.Schedules.{Scheduled, StateRow, state_row}
use Rattle.script_lines.specs.Text.{refused_text}
use Rattle.durable_script.specs.SchedulerChanges.{Reaches, Nowhere}
use Rattle.shown_records.specs.Rows.{rows_text}
use Rattle.durable_script.specs.ShowLines.{ShowsOnly, TellsState}
use Rattle.shown_records.proofs.Rows.{rows_shown}
use Rattle.durable_script.proofs.SchedulerChanges.{reaches_so, reaches_told}

-- these are the values of the object
abbrev AreStates : Text → List StateRow → List Event → Type 0
AreStates object rows events = rows ≡ map (state_row object) (object_state events object)

-- they are not told, for a circumstance
abbrev AreNotTold : Refusal → List Event → Type 0
AreNotTold why events = IsRefused [] why

module _ {S : Type 0} (g : Ghosts S) (object : Text) (a b : Scheduler BuiltIn S) (quiet : IsQuiet g a.store b.store) (kept : b ≡ record a { store = b.store }) where
  pub states_printed : (rows : List StateRow) → (HasCleanDisk (state g b.store.connection) → (s : Scheduled BuiltIn) → IsScheduled g s a → AreStates object rows s.standing.events × IsScheduled g s b)
      → Reaches g Nowhere (ShowsOnly (TellsState object (rows_text rows))) a b
  states_printed rows tells =
      reaches_so g Nowhere Nowhere (ShowsOnly (AreStates object rows)) (ShowsOnly (TellsState object (rows_text rows))) a b (λ x y none. none)
      (λ x y p. (
        inl (ap rows_text p.0 ∙ ap (λ (text : List ℕ). text ++ (codes "end" ++ 10 ∷ [])) (rows_shown object (object_state x.standing.events object))),
        p.1,
      )) (reaches_told g (AreStates object rows) a b quiet tells kept)

  pub no_states_printed : (why : Refusal) → (HasCleanDisk (state g b.store.connection) → (s : Scheduled BuiltIn) → IsScheduled g s a → AreNotTold why s.standing.events × IsScheduled g s b)
      → Reaches g Nowhere (ShowsOnly (TellsState object (refused_text (refusal_name_of why) ++ 10 ∷ []))) a b
  no_states_printed why tells =
      reaches_so g Nowhere Nowhere (ShowsOnly (AreNotTold why)) (ShowsOnly (TellsState object (refused_text (refusal_name_of why) ++ 10 ∷ []))) a b (λ x y none. none)
      (λ x y p. (inr (why, p.0, refl), p.1)) (reaches_told g (AreNotTold why) a b quiet tells kept)
