use Rattle.sqlite.specs.Held.{state}
use Rattle.sql_tables.proofs.Queries.{err_then, ok_then}
use Rattle.store_tables.specs.Questions.{is_at_key}
use Rattle.store_tables.proofs.Asking.{asks_state}
use Rattle.store_tables.proofs.Readable.{reads_state}
use Rattle.store_tables.proofs.read.state_at.Goals as goal

pub returns-clause-found : goal.returns-clause-found
returns-clause-found g c clean = ok_then c.find_one.result (c.find_one.ensures.found clean) (λ o it. it (λ r. r.states) (is_at_key c.args.object.now c.args.key.now) (rw (c.text.ensures.cell, c.blob.ensures) (asks_state (state g.S.Store c.args.tables.now) c.args.object.now c.args.key.now)))

pub returns-clause-foreign : goal.returns-clause-foreign
returns-clause-foreign g c clean = err_then c.find_one.result (c.find_one.ensures.foreign clean) (λ e it is. it is (λ r. r.states) (is_at_key c.args.object.now c.args.key.now) (rw (c.text.ensures.cell, c.blob.ensures) (asks_state (state g.S.Store c.args.tables.now) c.args.object.now c.args.key.now)))

pub returns-clause-cause : goal.returns-clause-cause
returns-clause-cause g c = c.find_one.ensures.cause (rw (c.text.ensures.cell, c.blob.ensures) (reads_state c.args.object.now c.args.key.now))
