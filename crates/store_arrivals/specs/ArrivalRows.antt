-- The rows of arrivals, as they are heard, and whether an invocation is awake with more of them.
use Rattle.std.specs.Prelude.{◌≡◌, ℕ, Bool, ◌||◌, List, [], ◌∷◌, ◌++◌, map}
use Rattle.journal_model.specs.Notification.{Text, Arrival}
use Rattle.journal_model.specs.declared.notification.NotificationResult.{NotificationResult}
use Rattle.journal_model.specs.Event.{Event}
use Rattle.journal_model.specs.Journal.{completion}
use Rattle.journal_model.specs.Attempt.{is_woken, suspension_of}
use Rattle.due_laws.specs.AwakeNotes.{is_awake_kept, not_heard}
use Rattle.journal_model.specs.Spelling.{notification_payload}
use Rattle.store_tables.specs.declared.row.EntryRow.{EntryRow}
use Rattle.store_tables.specs.declared.row.InvocationRow.{InvocationRow}
use Rattle.store_tables.specs.declared.row.Progress.{Progress}
use Rattle.store_refusals.specs.declared.refusal.Refusal.{Refusal}
use Rattle.store_refusals.specs.declared.refusal.Refusal.TheVariants as refusal
use Rattle.store_frames.specs.declared.kept_fault.KeptFault.{KeptFault}
use Rattle.store_frames.specs.declared.kept_fault.KeptFault.TheVariants.{OutOfMemory, Foreign}
use Rattle.store_frames.specs.KeptArrivals.{SignalFits, completion_in}

abbrev pub fault_refusal : KeptFault → Refusal
fault_refusal OutOfMemory = refusal.OutOfMemory
fault_refusal Foreign = refusal.ForeignRow

pub record IsHeardAs (arrival : Arrival) (row : EntryRow) : Type 0 where
  pub answered : row.answered ≡ completion_in arrival.id
  pub payload : row.payload ≡ notification_payload arrival
  pub fits : SignalFits arrival.id

-- these are the rows of these arrivals, in order
abbrev pub AreRowsOf : List Arrival → List EntryRow → Type 0
AreRowsOf [] [] = Unit {0}
AreRowsOf (arrival ∷ arrivals) (row ∷ rows) = IsHeardAs arrival row × AreRowsOf arrivals rows
AreRowsOf _ _ = ⊥

-- ---- the flag of an open invocation

-- once these arrivals are recorded too
abbrev pub awake_then : List Event → Text → List Arrival → Bool
awake_then events id new = is_awake_kept events id || is_woken (not_heard events id ++ new) (suspension_of events id)

abbrev pub flagged : List Event → Text → List Arrival → Progress → Progress
flagged events id new p = record p { is_awake = awake_then events id new }

abbrev pub row_then : List Event → Text → List Arrival → InvocationRow → InvocationRow
row_then events id new row = record row { progress = flagged events id new row.progress }

-- the ends of sleeps, as they arrive
abbrev pub sleep_end_of : ℕ → Arrival
sleep_end_of n = completion n NotificationResult.Void

abbrev pub ends_of : List ℕ → List Arrival
ends_of ns = map sleep_end_of ns
