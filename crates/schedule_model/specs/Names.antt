-- The names of refusals as they are printed.
use Rattle.std.specs.Prelude.{ℕ, List, codes}
use Rattle.store_refusals.specs.Names as store
use Rattle.schedule_model.specs.declared.event.EventRefusal.{EventRefusal}
use Rattle.schedule_model.specs.declared.event.EventRefusal.TheVariants.{Store, JournalMismatchOutcome, AttemptNotHeld}

abbrev pub event_refusal_name_of : EventRefusal → List ℕ
event_refusal_name_of (Store refusal) = store.refusal_name_of refusal
event_refusal_name_of JournalMismatchOutcome = codes "X1"
event_refusal_name_of AttemptNotHeld = codes "X2"
