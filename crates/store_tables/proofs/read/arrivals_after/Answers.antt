use Rattle.std.proofs.Common.{◌∙◌, ◌+◌, [], ◌∷◌, filter}
use Rattle.std.proofs.lemmas.List.Sorted.{IsPermutation-refl}
use Rattle.sqlite.specs.Held.{state}
use Rattle.sql_tables.proofs.Queries.{err_then, ok_then}
use Rattle.store_tables.specs.Questions.{is_arrival_after}
use Rattle.store_tables.proofs.Asking.{asks_after}
use Rattle.store_tables.proofs.Orders.{ordinals_sorted, ordinals_told}
use Rattle.store_tables.proofs.Readable.{reads_after}
use Rattle.store_tables.proofs.read.arrivals_after.Goals as goal

pub returns-clause-found : goal.returns-clause-found
returns-clause-found g c clean = ok_then c.find_all.result (c.find_all.ensures.arranged clean) (λ found it r h counted.
    let later = filter (is_arrival_after c.args.invocation.now c.args.ordinal) r.entries in
    it (λ r. r.entries) (is_arrival_after c.args.invocation.now c.args.ordinal) (7 ∷ []) (rw (c.text.ensures.cell, c.short.ensures.cell) (asks_after (state g.S.Store c.args.tables.now) c.args.invocation.now c.args.ordinal)) r h later (IsPermutation-refl _) (ordinals_told (c.args.ordinal + 1) later counted)
    ∙ ordinals_sorted (c.args.ordinal + 1) later counted)

pub returns-clause-foreign : goal.returns-clause-foreign
returns-clause-foreign g c clean = err_then c.find_all.result (c.find_all.ensures.foreign clean) (λ e it is r h counted.
    let later = filter (is_arrival_after c.args.invocation.now c.args.ordinal) r.entries in
    it is (λ r. r.entries) (is_arrival_after c.args.invocation.now c.args.ordinal) (7 ∷ []) (rw (c.text.ensures.cell, c.short.ensures.cell) (asks_after (state g.S.Store c.args.tables.now) c.args.invocation.now c.args.ordinal)) r h later (IsPermutation-refl _) (ordinals_told (c.args.ordinal + 1) later counted))

pub returns-clause-cause : goal.returns-clause-cause
returns-clause-cause g c = c.find_all.ensures.cause (rw (c.text.ensures.cell, c.short.ensures.cell) (reads_after c.args.invocation.now c.args.ordinal))
