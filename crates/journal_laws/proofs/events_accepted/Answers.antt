-- The law is proved in `Asking`.
use Rattle.journal_laws.proofs.Asking.{after_all-accepted}
use Rattle.journal_laws.proofs.events_accepted.Goals as goal

pub returns : goal.returns
returns c = after_all-accepted
