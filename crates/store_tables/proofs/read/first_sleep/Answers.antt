use Rattle.std.proofs.Common.{[], ◌∷◌, filter}
use Rattle.sqlite.specs.Held.{state}
use Rattle.sql_tables.proofs.Queries.{err_then, ok_then}
use Rattle.store_tables.specs.Records.{ends_from}
use Rattle.store_tables.proofs.Asking.{asks_first_sleep}
use Rattle.store_tables.proofs.Orders.{first_by_moment}
use Rattle.store_tables.proofs.Readable.{reads_first_sleep}
use Rattle.store_tables.proofs.read.first_sleep.Goals as goal

pub returns-clause-found : goal.returns-clause-found
returns-clause-found g c clean = ok_then c.find_first.result (c.find_first.ensures.found clean) (λ o it r h.
    first_by_moment (filter (ends_from c.args.moment) r.sleeps) o (it (λ r. r.sleeps) (ends_from c.args.moment) (0 ∷ []) (rw c.long.ensures.cell (asks_first_sleep (state g.S.Store c.args.tables.now) c.args.moment)) r h))

pub returns-clause-foreign : goal.returns-clause-foreign
returns-clause-foreign g c clean = err_then c.find_first.result (c.find_first.ensures.foreign clean) (λ e it is r h.
    it is (λ r. r.sleeps) (ends_from c.args.moment) (0 ∷ []) (rw c.long.ensures.cell (asks_first_sleep (state g.S.Store c.args.tables.now) c.args.moment)) r h)

pub returns-clause-cause : goal.returns-clause-cause
returns-clause-cause g c = c.find_first.ensures.cause (rw c.long.ensures.cell (reads_first_sleep c.args.moment))
