use Rattle.sqlite.specs.Held.{state}
use Rattle.sql_tables.proofs.Queries.{err_then, ok_then}
use Rattle.store_tables.specs.Questions.{answers}
use Rattle.store_tables.proofs.Asking.{asks_answered}
use Rattle.store_tables.proofs.Readable.{reads_answered}
use Rattle.store_tables.proofs.read.entry_by_answered.Goals as goal

pub returns-clause-found : goal.returns-clause-found
returns-clause-found g c clean = ok_then c.find_one.result (c.find_one.ensures.found clean) (λ o it. it (λ r. r.entries) (answers c.args.invocation.now c.args.completion) (rw (c.text.ensures.cell, c.short.ensures.cell) (asks_answered (state g.S.Store c.args.tables.now) c.args.invocation.now c.args.completion)))

pub returns-clause-foreign : goal.returns-clause-foreign
returns-clause-foreign g c clean = err_then c.find_one.result (c.find_one.ensures.foreign clean) (λ e it is. it is (λ r. r.entries) (answers c.args.invocation.now c.args.completion) (rw (c.text.ensures.cell, c.short.ensures.cell) (asks_answered (state g.S.Store c.args.tables.now) c.args.invocation.now c.args.completion)))

pub returns-clause-cause : goal.returns-clause-cause
returns-clause-cause g c = c.find_one.ensures.cause (rw (c.text.ensures.cell, c.short.ensures.cell) (reads_answered c.args.invocation.now c.args.completion))
