use Rattle.std.proofs.Common.{◌≡◌, refl, [], filter, sym, subst, arith, inr}
use Rattle.sqlite.specs.Held.{state}
use Rattle.sqlite.specs.State.{State, HasCleanDisk}
use Rattle.journal_model.specs.Attempt.{due, is_none, live_attempt}
use Rattle.store_refusals.specs.RefusalConditions.{IsRefused}
use Rattle.store_invocations.proofs.Reading.{told_err}
use Rattle.store_reads.proofs.Deciding.{awake_are, awake_known}
use Rattle.store_refusals.proofs.Causes.{read_cause_by}
use Rattle.store_reads.proofs.awake.awake_ids.Goals as goal

pub returns-clause-told : goal.returns-clause-told
returns-clause-told g c clean events store =
    let old : State = state g.S.Store c.args.tables.now in
    let early : HasCleanDisk old = omega (arith, c.awake_id_rows.ensures.looks.crash.clean) in
    let k = store.keeps early (c.in_ok-rows.ensures.open clean) in
    awake_are events old c.in_ok-rows.rows.items c.in_ok-ids.ids.items k (c.in_ok-rows.ensures.found clean) c.in_ok-ids.ensures

pub returns-in_err-rows-clause-told : goal.returns-in_err-rows-clause-told
returns-in_err-rows-clause-told g c clean events store =
    let old : State = state g.S.Store c.args.tables.now in
    let early : HasCleanDisk old = omega (arith, c.awake_id_rows.ensures.looks.crash.clean) in
    told_err (λ ids. due events ≡ filter (λ id. is_none (live_attempt events id)) ids.items) c.from_residual.result c.from_residual.ensures.1 (λ why gives.
    subst (IsRefused []) (sym gives) (inr (awake_known events old _ (store.keeps early) (c.in_err-rows.ensures.open clean) (c.in_err-rows.ensures.foreign clean))))

pub returns-in_err-ids-clause-told : goal.returns-in_err-ids-clause-told
returns-in_err-ids-clause-told g c clean events store =
    told_err (λ ids. due events ≡ filter (λ id. is_none (live_attempt events id)) ids.items) c.from_residual-in_err-ids.result c.from_residual-in_err-ids.ensures.1 (λ why gives.
    subst (IsRefused []) (sym gives) (inr refl))

pub returns-in_err-rows-clause-cause : goal.returns-in_err-rows-clause-cause
returns-in_err-rows-clause-cause g c =
    read_cause_by (state g.S.Store c.args.tables.now) (state g.S.Store c.awake_id_rows.new.tables) _ c.from_residual.result c.from_residual.ensures.1 c.in_err-rows.ensures.cause
