use Rattle.store_invocations.proofs.prepare.shown_states.Goals as goal

pub returns-clause-told : goal.returns-clause-told
returns-clause-told g c clean events store = rw c.if-not-row.false (c.object_states.ensures.told clean events store)
