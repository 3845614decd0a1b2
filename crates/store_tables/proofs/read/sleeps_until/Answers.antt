use Rattle.std.proofs.Common.{◌∙◌, [], ◌∷◌, filter}
use Rattle.std.proofs.lemmas.List.Sorted.{IsPermutation-refl}
use Rattle.sqlite.specs.Held.{state}
use Rattle.sql_tables.proofs.Queries.{err_then, ok_then}
use Rattle.store_tables.specs.Records.{ends_by}
use Rattle.store_tables.proofs.Asking.{asks_sleeps}
use Rattle.store_tables.proofs.Orders.{sleeps_sorted, sleeps_told}
use Rattle.store_tables.proofs.Readable.{reads_sleeps}
use Rattle.store_tables.proofs.read.sleeps_until.Goals as goal

pub returns-clause-found : goal.returns-clause-found
returns-clause-found g c clean = ok_then c.find_all.result (c.find_all.ensures.arranged clean) (λ found it r h apart.
    let due = filter (ends_by c.args.moment) r.sleeps in
    it (λ r. r.sleeps) (ends_by c.args.moment) (1 ∷ 0 ∷ 2 ∷ []) (rw c.long.ensures.cell (asks_sleeps (state g.S.Store c.args.tables.now) c.args.moment)) r h due (IsPermutation-refl _) (sleeps_told due apart)
    ∙ sleeps_sorted due)

pub returns-clause-foreign : goal.returns-clause-foreign
returns-clause-foreign g c clean = err_then c.find_all.result (c.find_all.ensures.foreign clean) (λ e it is r h apart.
    let due = filter (ends_by c.args.moment) r.sleeps in
    it is (λ r. r.sleeps) (ends_by c.args.moment) (1 ∷ 0 ∷ 2 ∷ []) (rw c.long.ensures.cell (asks_sleeps (state g.S.Store c.args.tables.now) c.args.moment)) r h due (IsPermutation-refl _) (sleeps_told due apart))

pub returns-clause-cause : goal.returns-clause-cause
returns-clause-cause g c = c.find_all.ensures.cause (rw c.long.ensures.cell (reads_sleeps c.args.moment))
