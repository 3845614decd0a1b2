-- What a line that shows an invocation, the state of an object, or what is due prints.
use Rattle.std.specs.Prelude.{◌≡◌, ◌⊎◌, ℕ, List, [], ◌∷◌, ◌++◌}
use Rattle.built_in_handlers.specs.declared.built_in.BuiltIn.{BuiltIn}
use Rattle.journal_model.specs.Event.{Event}
use Rattle.journal_model.specs.Attempt.{due}
use Rattle.store_refusals.specs.declared.refusal.Refusal.{Refusal}
use Rattle.store_refusals.specs.Names.{refusal_name_of}
use Rattle.store_refusals.specs.RefusalConditions.{IsRefused}
use Rattle.durable_schedule.specs.Schedules.{Scheduled}
use Rattle.script_lines.specs.Text.{refused_text, due_line}
pub use Rattle.shown_records.specs.ShownTexts.{IsKnown, HasEntries, HasRecords, ShowsRecords, RefusesShow, ShowsRefusal, Shows, state_entry, states_text, TellsState}

-- the invocations that are due are told, or they are not, for a circumstance
abbrev pub ShowsDue : List ℕ → List Event → Type 0
ShowsDue text events = (text ≡ due_line (due events) ++ 10 ∷ []) ⊎ ((refusal : Refusal) × IsRefused [] refusal × (text ≡ refused_text (refusal_name_of refusal) ++ 10 ∷ []))

-- what is told of the accepted events, and nothing changes
abbrev pub ShowsOnly : (List Event → Type 0) → Scheduled BuiltIn → Scheduled BuiltIn → Type 0
ShowsOnly Told old new = Told old.standing.events × (new ≡ old)
