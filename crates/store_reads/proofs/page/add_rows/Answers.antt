use Rattle.std.proofs.Common.{◌≡◌, ◌++◌, ◌∷◌, [], Some, None, sym, subst, arith, slice_get}
use Rattle.std.specs.Option.{option_copied}
use Rattle.sqlite.specs.Held.{state}
use Rattle.sqlite.specs.State.{State, HasCleanDisk}
use Rattle.store_tables.proofs.Chained.{looks_on}
use Rattle.store_refusals.proofs.Causes.{cause_by, err_later}
use Rattle.store_invocations.proofs.Standing.{store_kept}
use Rattle.store_live_laws.proofs.Awake.{begun_rise}
use Rattle.store_reads.specs.Page.{last_id, rows_behind, rows_by_id}
use Rattle.store_reads.proofs.PageRows.{IsBegun, begun_all, begun_more}
use Rattle.store_reads.proofs.page.add_rows.Goals as goal

pub loop-tables-preserved : goal.loop-tables-preserved
loop-tables-preserved g c =
    let old : State = state g.S.Store c.args.tables.now in
    let mid : State = state g.S.Store c.loop-tables.tables in
    let after = option_copied c.args.after in
    let rows = c.loop-tables.rows.items in
    record {
      told = λ clean events store none.
          let early : HasCleanDisk mid = omega (arith, c.next_row.ensures.looks.crash.clean, clean) in
          let now = store_kept events old mid c.loop-tables.invariant.looks.crash c.loop-tables.invariant.looks.kept store in
          let told = rw c.as_slice.ensures.value at (c.in_ok-row.ensures.told clean events now) in
          let is = c.in-Some.is in
          let next : slice_get (rows_behind events (last_id after rows)) 0 ≡ Some c.in-Some.row = cc in
          subst (IsBegun (rows_by_id events) after c.args.most) {x = rows ++ c.in-Some.row ∷ []} {y = c.push.new.self.items} (sym c.in_ok-push-in-Some.ensures.items)
          (begun_more (rows_by_id events) after c.args.most rows c.in-Some.row (begun_rise events store.accepted) (omega (arith, c.len.ensures, c.loop-tables-test.true)) next (c.loop-tables.invariant.told early events store none));
      looks = looks_on g.S.Store c.args.tables.now c.loop-tables.tables c.next_row.new.tables c.loop-tables.invariant.looks c.next_row.ensures.looks;
    }

pub returns-in-None-clause-told : goal.returns-in-None-clause-told
returns-in-None-clause-told g c = λ clean events store none.
    let old : State = state g.S.Store c.args.tables.now in
    let mid : State = state g.S.Store c.loop-tables.tables in
    let after = option_copied c.args.after in
    let rows = c.loop-tables.rows.items in
    let early : HasCleanDisk mid = omega (arith, c.next_row.ensures.looks.crash.clean, clean) in
    let now = store_kept events old mid c.loop-tables.invariant.looks.crash c.loop-tables.invariant.looks.kept store in
    let told = rw c.as_slice.ensures.value at (c.in_ok-row.ensures.told clean events now) in
    let is = c.in-None.is in
    let next : slice_get (rows_behind events (last_id after rows)) 0 ≡ None = cc in
    begun_all (rows_by_id events) after c.args.most rows next (c.loop-tables.invariant.told early events store none)

pub returns-in_err-row-clause-cause : goal.returns-in_err-row-clause-cause
returns-in_err-row-clause-cause g c =
    err_later (state g.S.Store c.args.tables.now) (state g.S.Store c.loop-tables.tables) (state g.S.Store c.next_row.new.tables) _ _ c.loop-tables.invariant.looks.crash c.next_row.ensures.looks.crash _
    (cause_by (state g.S.Store c.loop-tables.tables) (state g.S.Store c.next_row.new.tables) _ c.from_residual.result c.from_residual.ensures.1 c.in_err-row.ensures.cause)
