-- All are proved in `Begun`.
use Rattle.live_laws.proofs.Begun.{begun_with, begun_on, journal_begins}
use Rattle.live_laws.proofs.attempts_begin_with_journals.Goals as goal

pub returns : goal.returns
returns c = record { begins = begun_with; stays = begun_on; of_run = journal_begins }
