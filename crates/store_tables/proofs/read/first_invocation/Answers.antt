use Rattle.std.proofs.Common.{[], ◌∷◌, filter, None}
use Rattle.sqlite.specs.Held.{state}
use Rattle.sql_tables.proofs.Queries.{err_then, ok_then}
use Rattle.store_tables.specs.Questions.{is_named_after}
use Rattle.store_tables.proofs.Asking.{asks_first_invocation}
use Rattle.store_tables.proofs.Orders.{first_by_id}
use Rattle.store_tables.proofs.Readable.{reads_first_invocation}
use Rattle.store_tables.proofs.read.first_invocation.Goals as goal

pub returns-clause-found : goal.returns-clause-found
returns-clause-found g c clean = ok_then c.find_first.result (c.find_first.ensures.found clean) (λ o it r h.
    first_by_id (filter (is_named_after None) r.invocations) o (it (λ r. r.invocations) (is_named_after None) (0 ∷ []) (asks_first_invocation (state g.S.Store c.args.tables.now)) r h))

pub returns-clause-foreign : goal.returns-clause-foreign
returns-clause-foreign g c clean = err_then c.find_first.result (c.find_first.ensures.foreign clean) (λ e it is r h.
    it is (λ r. r.invocations) (is_named_after None) (0 ∷ []) (asks_first_invocation (state g.S.Store c.args.tables.now)) r h)

pub returns-clause-cause : goal.returns-clause-cause
returns-clause-cause g c = c.find_first.ensures.cause reads_first_invocation
