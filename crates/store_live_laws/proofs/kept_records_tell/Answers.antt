-- Proved in `Awake` and `NextSleep`.
use Rattle.store_live_laws.proofs.Awake.{awake_are_arranged, due_from_records}
use Rattle.store_live_laws.proofs.NextSleep.{next_from_records}
use Rattle.store_live_laws.proofs.kept_records_tell.Goals as goal

pub returns-clause-due : goal.returns-clause-due
returns-clause-due c = due_from_records

pub returns-clause-arranged : goal.returns-clause-arranged
returns-clause-arranged c = awake_are_arranged

pub returns-clause-next : goal.returns-clause-next
returns-clause-next c = next_from_records
