-- The laws are proved in `Laws` and `Events`.
use Rattle.store_sql_laws.proofs.Events.{no_event_takes_a_key}
use Rattle.store_sql_laws.proofs.Laws.{no_key_is_taken}
use Rattle.store_sql_laws.proofs.no_key_is_taken.Goals as goal

pub returns-clause-writes : goal.returns-clause-writes
returns-clause-writes c = no_key_is_taken

pub returns-clause-events : goal.returns-clause-events
returns-clause-events c = no_event_takes_a_key
