-- The laws are proved in `Named`, `Outbox` and `States`.
use Rattle.delivery_laws.proofs.Named.{begun_named}
use Rattle.delivery_laws.proofs.Outbox.{numbers_grow, stands}
use Rattle.delivery_laws.proofs.States.{outbox_is_state}
use Rattle.delivery_laws.proofs.rows_are_owed.Goals as goal

pub returns-clause-owed : goal.returns-clause-owed
returns-clause-owed c = λ rules log posted. (stands rules log posted).owed

pub returns-clause-apart : goal.returns-clause-apart
returns-clause-apart c = λ rules log posted. (stands rules log posted).apart

pub returns-clause-ascend : goal.returns-clause-ascend
returns-clause-ascend c = λ rules log posted. (stands rules log posted).ascend

pub returns-clause-grow : goal.returns-clause-grow
returns-clause-grow c = numbers_grow

pub returns-clause-kept : goal.returns-clause-kept
returns-clause-kept c = outbox_is_state

pub returns-clause-own : goal.returns-clause-own
returns-clause-own c = begun_named
