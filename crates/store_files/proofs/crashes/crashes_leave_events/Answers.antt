-- The laws are proved in `Leaving`.
use Rattle.journal_model.specs.Event.{Event}
use Rattle.store_calls.specs.AbstractStore.{Adds}
use Rattle.journal_store.specs.Attempts.{BeginsSome}
use Rattle.store_files.proofs.CrashImages.{calls_leave, opens_leave, quiet_calls_leave}
use Rattle.store_files.proofs.crashes.crashes_leave_events.Goals as goal

pub returns-clause-calls : goal.returns-clause-calls
returns-clause-calls g c event = calls_leave g.S.Store (Adds event) event (λ s t it. it.events)

pub returns-clause-begins : goal.returns-clause-begins
returns-clause-begins g c id now = calls_leave g.S.Store (BeginsSome id now) (Event.Begin id now) (λ s t it. it.1.leaves.events)

pub returns-clause-quiet : goal.returns-clause-quiet
returns-clause-quiet g c = quiet_calls_leave g.S.Store

pub returns-clause-opens : goal.returns-clause-opens
returns-clause-opens g c = opens_leave g.S.Store
