use Rattle.std.proofs.Common.{◌≡◌, ◌∙◌, [], ◌∷◌, true, false, sym, subst}
use Rattle.sqlite.specs.Held.{state}
use Rattle.sql_tables.proofs.RowReads.{err_and}
use Rattle.store_tables.specs.Records.{StateRow}
use Rattle.store_tables.specs.Questions.{DoAscend, is_of_object}
use Rattle.store_tables.proofs.Asked.{asked_err}
use Rattle.store_tables.proofs.Asking.{asks_states}
use Rattle.store_tables.proofs.Orders.{states_sorted, states_told}
use Rattle.sql_tables.proofs.Causes.{read_cause_by}
use Rattle.store_tables.proofs.Readable.{reads_states}
use Rattle.store_tables.proofs.read.states_of.Goals as goal

pub returns-clause-found : goal.returns-clause-found
returns-clause-found g c clean = (
  rw c.as_slice.ensures.value at (c.do_states_ascend.ensures.exact c.if-not-do_states_ascend.false),
  c.in_ok-records.ensures.found clean (λ r. r.states) (is_of_object c.args.object.now) (rw c.text.ensures.cell (asks_states (state g.S.Store c.args.tables.now) c.args.object.now).asks),
)

pub returns-clause-arranged : goal.returns-clause-arranged
returns-clause-arranged g c clean = λ r h zs same up.
    c.in_ok-records.ensures.arranged clean (λ r. r.states) (is_of_object c.args.object.now) (1 ∷ []) (rw c.text.ensures.cell (asks_states (state g.S.Store c.args.tables.now) c.args.object.now)) r h zs same (states_told zs up) ∙ states_sorted zs up

pub returns-in_err-records-clause-foreign : goal.returns-in_err-records-clause-foreign
returns-in_err-records-clause-foreign g c clean =
    err_and c.from_residual.result c.from_residual.ensures.1 (λ e gives is r h zs same up.
    c.in_err-records.ensures.foreign clean (sym gives ∙ is) (λ r. r.states) (is_of_object c.args.object.now) (1 ∷ []) (rw c.text.ensures.cell (asks_states (state g.S.Store c.args.tables.now) c.args.object.now)) r h zs same (states_told zs up))

pub returns-then-not-do_states_ascend-clause-foreign : goal.returns-then-not-do_states_ascend-clause-foreign
returns-then-not-do_states_ascend-clause-foreign g c clean is r h zs same up =
    let arranged : c.in_ok-records.records.items ≡ zs = c.in_ok-records.ensures.arranged clean (λ r. r.states) (is_of_object c.args.object.now) (1 ∷ []) (rw c.text.ensures.cell (asks_states (state g.S.Store c.args.tables.now) c.args.object.now)) r h zs same (states_told zs up) ∙ states_sorted zs up in
    let yes : c.do_states_ascend.result ≡ true = (rw c.as_slice.ensures.value at c.do_states_ascend.ensures.complete) (subst (DoAscend (λ (s : StateRow). s.key)) (sym arranged) up) in
    let no : true ≡ false = sym yes ∙ c.if-not-do_states_ascend.true in
    absurd cc

pub returns-in_err-records-clause-open : goal.returns-in_err-records-clause-open
returns-in_err-records-clause-open g c clean = asked_err (state g.S.Store c.args.tables.now) c.from_residual.result c.from_residual.ensures.1 (λ e gives is. c.in_err-records.ensures.open clean (sym gives ∙ is))

pub returns-in_err-records-clause-cause : goal.returns-in_err-records-clause-cause
returns-in_err-records-clause-cause g c =
    read_cause_by (state g.S.Store c.args.tables.now) (state g.S.Store c.find_all.new.tables) _ c.from_residual.result c.from_residual.ensures.1 (c.in_err-records.ensures.cause (rw c.text.ensures.cell (reads_states c.args.object.now)))
