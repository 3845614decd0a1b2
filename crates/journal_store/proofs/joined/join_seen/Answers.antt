use Rattle.journal_store.proofs.joined.join_seen.Goals as goal

pub returns-in_ok-put_made-in-Some-clause-joins : goal.returns-in_ok-put_made-in-Some-clause-joins
returns-in_ok-put_made-in-Some-clause-joins g c = (c.in-Some.made, c.in_ok-put_made-in-Some.ensures, λ clean events later store accepted same of. c.in-Some.ensures.made clean events later store accepted same of)
