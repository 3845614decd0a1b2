use Rattle.store_steps.proofs.prepare.decide_other.Goals as goal

pub returns-else-is_written-clause-prepared : goal.returns-else-is_written-clause-prepared
returns-else-is_written-clause-prepared g c clean events store of other = c.decide_unwritten.ensures.prepared clean events store other
