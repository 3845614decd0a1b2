use Rattle.std.proofs.Common.{◌≡◌, ◌∙◌, [], ◌∷◌, true, false, sym, subst, map}
use Rattle.std.specs.List.Sorted.{IsPermutation}
use Rattle.sqlite.specs.Held.{state}
use Rattle.sql_tables.proofs.RowReads.{err_and}
use Rattle.sql_tables.proofs.Causes.{read_cause_by}
use Rattle.store_tables.specs.Records.{IdRow, id_row}
use Rattle.store_tables.specs.Questions.{DoAscend, awake_ids}
use Rattle.store_tables.proofs.Asked.{asked_err}
use Rattle.store_tables.proofs.AwakeIds.{all_ids, asks_awake, ids_arranged, ids_ascend}
use Rattle.store_tables.proofs.Orders.{ids_sorted, ids_told}
use Rattle.store_tables.proofs.Readable.{reads_awake}
use Rattle.store_tables.proofs.read.awake_id_rows.Goals as goal

pub returns-clause-found : goal.returns-clause-found
returns-clause-found g c clean = (
  rw c.as_slice.ensures.value at (c.do_ids_ascend.ensures.exact c.if-not-do_ids_ascend.false),
  λ r h. subst (λ l. IsPermutation l c.in_ok-records.records.items) (all_ids r)
      (c.in_ok-records.ensures.found clean awake_ids (λ (i : IdRow). true) (rw c.flag.ensures (asks_awake (state g.S.Store c.args.tables.now)).asks) r h),
)

pub returns-clause-arranged : goal.returns-clause-arranged
returns-clause-arranged g c clean = λ r h xs same up.
    let rises = ids_ascend xs up in
    c.in_ok-records.ensures.arranged clean awake_ids (λ (i : IdRow). true) (0 ∷ []) (rw c.flag.ensures (asks_awake (state g.S.Store c.args.tables.now))) r h (map id_row xs) (ids_arranged r xs same) (ids_told (map id_row xs) rises)
    ∙ ids_sorted (map id_row xs) rises

pub returns-in_err-records-clause-foreign : goal.returns-in_err-records-clause-foreign
returns-in_err-records-clause-foreign g c clean =
    err_and c.from_residual.result c.from_residual.ensures.1 (λ e gives is r h xs same up.
    c.in_err-records.ensures.foreign clean (sym gives ∙ is) awake_ids (λ (i : IdRow). true) (0 ∷ []) (rw c.flag.ensures (asks_awake (state g.S.Store c.args.tables.now))) r h (map id_row xs) (ids_arranged r xs same)
    (ids_told (map id_row xs) (ids_ascend xs up)))

pub returns-then-not-do_ids_ascend-clause-foreign : goal.returns-then-not-do_ids_ascend-clause-foreign
returns-then-not-do_ids_ascend-clause-foreign g c clean is r h xs same up =
    let rises = ids_ascend xs up in
    let arranged : c.in_ok-records.records.items ≡ map id_row xs =
    c.in_ok-records.ensures.arranged clean awake_ids (λ (i : IdRow). true) (0 ∷ []) (rw c.flag.ensures (asks_awake (state g.S.Store c.args.tables.now))) r h (map id_row xs) (ids_arranged r xs same) (ids_told (map id_row xs) rises)
    ∙ ids_sorted (map id_row xs) rises in
    let yes : c.do_ids_ascend.result ≡ true = (rw c.as_slice.ensures.value at c.do_ids_ascend.ensures.complete) (subst (DoAscend (λ (i : IdRow). i.id)) (sym arranged) rises) in
    let no : true ≡ false = sym yes ∙ c.if-not-do_ids_ascend.true in
    absurd cc

pub returns-in_err-records-clause-open : goal.returns-in_err-records-clause-open
returns-in_err-records-clause-open g c clean = asked_err (state g.S.Store c.args.tables.now) c.from_residual.result c.from_residual.ensures.1 (λ e gives is. c.in_err-records.ensures.open clean (sym gives ∙ is))

pub returns-in_err-records-clause-cause : goal.returns-in_err-records-clause-cause
returns-in_err-records-clause-cause g c =
    read_cause_by (state g.S.Store c.args.tables.now) (state g.S.Store c.find_all.new.tables) _ c.from_residual.result c.from_residual.ensures.1 (c.in_err-records.ensures.cause (rw c.flag.ensures reads_awake))
