-- Both are proved in `Past`.
use Rattle.run_laws.proofs.Past.{woken_past, past_woken}
use Rattle.run_laws.proofs.suspensions_wake_with_runs.Goals as goal

pub returns-clause-never_late : goal.returns-clause-never_late
returns-clause-never_late c = woken_past

pub returns-clause-exactly : goal.returns-clause-exactly
returns-clause-exactly c = past_woken
