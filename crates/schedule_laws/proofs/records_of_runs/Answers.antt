-- All are proved in `Leaving` and `Unfailed`.
use Rattle.schedule_laws.proofs.Leaving.{holds_headline, holds_never_late, holds_wakes_exactly}
use Rattle.schedule_laws.proofs.Unfailed.{holds_closed}
use Rattle.schedule_laws.proofs.records_of_runs.Goals as goal

pub returns-clause-headline : goal.returns-clause-headline
returns-clause-headline c = holds_headline

pub returns-clause-closed : goal.returns-clause-closed
returns-clause-closed c = holds_closed

pub returns-clause-never_late : goal.returns-clause-never_late
returns-clause-never_late c = holds_never_late

pub returns-clause-wakes_exactly : goal.returns-clause-wakes_exactly
returns-clause-wakes_exactly c = holds_wakes_exactly
