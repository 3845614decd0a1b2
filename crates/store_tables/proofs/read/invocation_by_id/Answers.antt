use Rattle.sqlite.specs.Held.{state}
use Rattle.sql_tables.proofs.Queries.{err_then, ok_then}
use Rattle.store_tables.specs.Questions.{has_id}
use Rattle.store_tables.proofs.Asking.{asks_id}
use Rattle.store_tables.proofs.Readable.{reads_id}
use Rattle.store_tables.proofs.read.invocation_by_id.Goals as goal

pub returns-clause-found : goal.returns-clause-found
returns-clause-found g c clean = ok_then c.find_one.result (c.find_one.ensures.found clean) (λ o it. it (λ r. r.invocations) (has_id c.args.id.now) (rw c.text.ensures.cell (asks_id (state g.S.Store c.args.tables.now) c.args.id.now)))

pub returns-clause-foreign : goal.returns-clause-foreign
returns-clause-foreign g c clean = err_then c.find_one.result (c.find_one.ensures.foreign clean) (λ e it is. it is (λ r. r.invocations) (has_id c.args.id.now) (rw c.text.ensures.cell (asks_id (state g.S.Store c.args.tables.now) c.args.id.now)))

pub returns-clause-cause : goal.returns-clause-cause
returns-clause-cause g c = c.find_one.ensures.cause (rw c.text.ensures.cell (reads_id c.args.id.now))
