use Rattle.std.proofs.Common.{◌≡◌, ◌∙◌, [], ◌∷◌, true, false, sym, subst, bytes_eq}
use Rattle.std.proofs.lemmas.List.Sorted.{IsPermutation-refl}
use Rattle.sqlite.specs.Held.{state}
use Rattle.sql_tables.proofs.RowReads.{err_and}
use Rattle.store_tables.specs.Questions.{AreInPlace, journal_of}
use Rattle.store_tables.proofs.Asked.{asked_err}
use Rattle.store_tables.proofs.Asking.{asks_entries}
use Rattle.store_tables.proofs.Orders.{one_order, places_sorted, places_told}
use Rattle.sql_tables.proofs.Causes.{read_cause_by}
use Rattle.store_tables.proofs.Readable.{reads_entries}
use Rattle.store_tables.proofs.read.journal.Goals as goal

pub returns-clause-found : goal.returns-clause-found
returns-clause-found g c clean = λ r h place.
    one_order (journal_of c.args.invocation.now r) c.in_ok-records.records.items
    (c.in_ok-records.ensures.found clean (λ r. r.entries) (λ e. bytes_eq e.invocation c.args.invocation.now) (rw c.text.ensures.cell (asks_entries (state g.S.Store c.args.tables.now) c.args.invocation.now).asks) r h)
    place (rw c.as_slice.ensures.value at (c.are_in_place.ensures.exact c.if-not-are_in_place.false))

pub returns-in_err-records-clause-foreign : goal.returns-in_err-records-clause-foreign
returns-in_err-records-clause-foreign g c clean =
    err_and c.from_residual.result c.from_residual.ensures.1 (λ e gives is r h place.
    c.in_err-records.ensures.foreign clean (sym gives ∙ is) (λ r. r.entries) (λ e. bytes_eq e.invocation c.args.invocation.now) (1 ∷ []) (rw c.text.ensures.cell (asks_entries (state g.S.Store c.args.tables.now) c.args.invocation.now))
    r h (journal_of c.args.invocation.now r) (IsPermutation-refl _) (places_told (journal_of c.args.invocation.now r) place))

pub returns-then-not-are_in_place-clause-foreign : goal.returns-then-not-are_in_place-clause-foreign
returns-then-not-are_in_place-clause-foreign g c clean is r h place =
    let whole = journal_of c.args.invocation.now r in
    let same : c.in_ok-records.records.items ≡ whole = c.in_ok-records.ensures.arranged clean (λ r. r.entries) (λ e. bytes_eq e.invocation c.args.invocation.now) (1 ∷ []) (rw c.text.ensures.cell (asks_entries (state g.S.Store c.args.tables.now) c.args.invocation.now)) r h whole (IsPermutation-refl _) (places_told whole place) ∙ places_sorted whole place in
    let yes : c.are_in_place.result ≡ true = (rw c.as_slice.ensures.value at c.are_in_place.ensures.complete) (subst (AreInPlace 0) (sym same) place) in
    let no : true ≡ false = sym yes ∙ c.if-not-are_in_place.true in
    absurd cc

pub returns-in_err-records-clause-open : goal.returns-in_err-records-clause-open
returns-in_err-records-clause-open g c clean = asked_err (state g.S.Store c.args.tables.now) c.from_residual.result c.from_residual.ensures.1 (λ e gives is. c.in_err-records.ensures.open clean (sym gives ∙ is))

pub returns-in_err-records-clause-cause : goal.returns-in_err-records-clause-cause
returns-in_err-records-clause-cause g c =
    read_cause_by (state g.S.Store c.args.tables.now) (state g.S.Store c.find_all.new.tables) _ c.from_residual.result c.from_residual.ensures.1 (c.in_err-records.ensures.cause (rw c.text.ensures.cell (reads_entries c.args.invocation.now)))
