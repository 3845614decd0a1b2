use Rattle.store_steps.proofs.Waking.{no_other}
use Rattle.store_steps.proofs.prepare.prepare_frame.Goals as goal

pub returns-in-Command-clause-prepared : goal.returns-in-Command-clause-prepared
returns-in-Command-clause-prepared g c clean events store of = rw c.in-Command.is (c.command_by_row.ensures.prepared clean events store of)

pub returns-in-RunOutcome-clause-prepared : goal.returns-in-RunOutcome-clause-prepared
returns-in-RunOutcome-clause-prepared g c clean events store of = rw c.in-RunOutcome.is (c.outcome_by_row.ensures.prepared clean events store of c.args.attempt)

pub returns-in_default-clause-prepared : goal.returns-in_default-clause-prepared
returns-in_default-clause-prepared g c clean events store of =
    c.decide_other.ensures.prepared clean events store of (no_other c.args.frame c.in_default.not-Command c.in_default.not-RunOutcome)

pub returns-in-Command-clause-asked : goal.returns-in-Command-clause-asked
returns-in-Command-clause-asked g c clean = rw c.in-Command.is (λ unwritten. cc)

pub returns-in-RunOutcome-clause-asked : goal.returns-in-RunOutcome-clause-asked
returns-in-RunOutcome-clause-asked g c clean = rw c.in-RunOutcome.is (λ unwritten. cc)
