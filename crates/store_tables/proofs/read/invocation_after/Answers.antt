use Rattle.std.proofs.Common.{[], ◌∷◌, filter, Some}
use Rattle.sqlite.specs.Held.{state}
use Rattle.sql_tables.proofs.Queries.{err_then, ok_then}
use Rattle.store_tables.specs.Questions.{is_named_after}
use Rattle.store_tables.proofs.Asking.{asks_invocation_after}
use Rattle.store_tables.proofs.Orders.{first_by_id}
use Rattle.store_tables.proofs.Readable.{reads_invocation_after}
use Rattle.store_tables.proofs.read.invocation_after.Goals as goal

pub returns-clause-found : goal.returns-clause-found
returns-clause-found g c clean = ok_then c.find_first.result (c.find_first.ensures.found clean) (λ o it r h.
    first_by_id (filter (is_named_after (Some c.args.id.now)) r.invocations) o (it (λ r. r.invocations) (is_named_after (Some c.args.id.now)) (0 ∷ []) (rw c.text.ensures.cell (asks_invocation_after (state g.S.Store c.args.tables.now) c.args.id.now)) r h))

pub returns-clause-foreign : goal.returns-clause-foreign
returns-clause-foreign g c clean = err_then c.find_first.result (c.find_first.ensures.foreign clean) (λ e it is r h.
    it is (λ r. r.invocations) (is_named_after (Some c.args.id.now)) (0 ∷ []) (rw c.text.ensures.cell (asks_invocation_after (state g.S.Store c.args.tables.now) c.args.id.now)) r h)

pub returns-clause-cause : goal.returns-clause-cause
returns-clause-cause g c = c.find_first.ensures.cause (rw c.text.ensures.cell (reads_invocation_after c.args.id.now))
