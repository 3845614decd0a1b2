-- The laws are proved in `Keeping` and in `Schedules`.
use Rattle.live_laws.proofs.Keeping.{one_event, all_events}
use Rattle.live_laws.proofs.Schedules.{begins_of_run}
use Rattle.live_laws.proofs.schedules_follow.Goals as goal

pub returns-clause-begins : goal.returns-clause-begins
returns-clause-begins c = λ next given id event events accepted e. begins_of_run next given id event events accepted e

pub returns-clause-each : goal.returns-clause-each
returns-clause-each c = λ next given id event events coming left causes passes f. one_event next given id event events coming left causes passes f

pub returns-clause-all : goal.returns-clause-all
returns-clause-all c = λ next given id events coming schedule. all_events next given id schedule
