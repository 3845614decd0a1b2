-- The laws are proved in `Applying` and in `ObjectState`.
use Rattle.journal_laws.proofs.Applying.{state_after-twice}
use Rattle.journal_laws.proofs.ObjectState.{state_of_open}
use Rattle.journal_laws.proofs.state_stands.Goals as goal

pub returns-clause-once : goal.returns-clause-once
returns-clause-once c = state_after-twice

pub returns-clause-follows : goal.returns-clause-follows
returns-clause-follows c = state_of_open
