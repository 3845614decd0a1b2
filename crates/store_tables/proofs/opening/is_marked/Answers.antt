use Rattle.std.proofs.Common.{◌≡◌, ◌∙◌, [], ◌∷◌, map, Some, true, sym, ap, arith}
use Rattle.std.specs.Option.{option_to_list}
use Rattle.sqlite.specs.Held.{state}
use Rattle.sqlite.specs.State.{State, HasCleanDisk}
use Rattle.sql_tables.proofs.Causes.{read_cause_by}
use Rattle.sql_tables.proofs.RowReads.{err_and}
use Rattle.store_tables.specs.Tables.{store_schema}
use Rattle.store_tables.proofs.Readable.{reads_marks}
use Rattle.store_tables.specs.Records.{FitsMark, cells_of_mark, the_mark}
use Rattle.store_tables.specs.Statements.{marks_text}
use Rattle.store_tables.proofs.Asking.{asks_marks, marked}
use Rattle.store_tables.proofs.Found.{one_ambiguous, one_found}
use Rattle.store_tables.proofs.opening.is_marked.Goals as goal

pub returns-clause-marked : goal.returns-clause-marked
returns-clause-marked g c clean own =
    let old : State = state g.S.Store c.args.conn.now in
    let early : HasCleanDisk old = omega (arith, c.one_by.ensures.crash.clean) in
    let it = c.in_ok-mark.ensures.answers clean in
    let is : c.in_ok-mark.mark ≡ Some the_mark = c.is_own.ensures.own own in
    marked old (map cells_of_mark (option_to_list c.in_ok-mark.mark)) (c.requires.store early it.0) it.1 (ap (λ o. map cells_of_mark (option_to_list o)) is)

pub returns-clause-held : goal.returns-clause-held
returns-clause-held g c clean r h =
    let old : State = state g.S.Store c.args.conn.now in
    let early : HasCleanDisk old = omega (arith, c.one_by.ensures.crash.clean) in
    let it = c.in_ok-mark.ensures.answers clean in
    c.is_own.ensures.held (one_found cells_of_mark FitsMark (λ r. the_mark ∷ []) (λ m. true) marks_text [] old (c.requires.store early it.0) (asks_marks old) c.in_ok-mark.mark it.1 it.2 r h)

pub returns-in_err-mark-clause-foreign : goal.returns-in_err-mark-clause-foreign
returns-in_err-mark-clause-foreign g c clean =
    let old : State = state g.S.Store c.args.conn.now in
    let early : HasCleanDisk old = omega (arith, c.one_by.ensures.crash.clean) in
    err_and c.from_residual.result c.from_residual.ensures.1 (λ e gives is r h.
    let it = c.in_err-mark.ensures.foreign clean (sym gives ∙ is) in
    one_ambiguous cells_of_mark FitsMark (λ r. the_mark ∷ []) (λ m. true) marks_text [] old (c.requires.store early it.0) (asks_marks old) it.1 r h (omega arith))

pub returns-in_err-mark-clause-cause : goal.returns-in_err-mark-clause-cause
returns-in_err-mark-clause-cause g c =
    read_cause_by (state g.S.Store c.args.conn.now) (state g.S.Store c.one_by.new.conn) _ c.from_residual.result c.from_residual.ensures.1 (λ clean.
    c.in_err-mark.ensures.cause (store_schema, c.requires.store (omega (arith, c.one_by.ensures.crash.clean, clean)), reads_marks) clean)
