use Rattle.std.proofs.Common.{◌≡◌, [], Bool, List, Some, take, refl, sym, subst, arith, inr}
use Rattle.sqlite.specs.Held.{state}
use Rattle.sqlite.specs.State.{State, HasCleanDisk}
use Rattle.store_tables.proofs.Chained.{looks_on}
use Rattle.store_refusals.specs.RefusalConditions.{IsRefused}
use Rattle.store_refusals.proofs.Causes.{cause_by, err_later}
use Rattle.store_invocations.proofs.Reading.{told_err}
use Rattle.store_invocations.proofs.Standing.{store_kept}
use Rattle.store_live_laws.proofs.Awake.{begun_rise}
use Rattle.store_reads.specs.DuePage.{IsPassed, due_among}
use Rattle.store_reads.specs.Page.{rows_behind, rows_by_id}
use Rattle.store_reads.proofs.DuePage.{paged_all, paged_first, paged_full, paged_on}
use Rattle.store_reads.proofs.PageRows.{looks_first}
use Rattle.store_reads.proofs.due_page.add_due.Goals as goal

pub loop-init : goal.loop-init
loop-init g c = record {
  told = λ clean events store none. paged_first c.args.live.now.attempts (rows_by_id events) c.args.after.now c.args.most c.in_ok-behind.behind c.args.ids.now.items c.in_ok-behind.ensures.cases none;
  looks = looks_first g.S.Store c.args.tables.now;
}

pub loop-preserved : goal.loop-preserved
loop-preserved g c =
    let old : State = state g.S.Store c.args.tables.now in
    let mid : State = state g.S.Store c.loop.tables in
    record {
      told = λ clean events store none.
          let early : HasCleanDisk mid = omega (arith, c.pass_row.ensures.looks.crash.clean, clean) in
          let now = store_kept events old mid c.loop.invariant.looks.crash c.loop.invariant.looks.kept store in
          let passed = subst (λ (b : Bool). IsPassed c.args.live.now.attempts (rows_behind events (Some c.loop.behind)) b c.pass_row.new.behind c.loop.ids.items c.pass_row.new.ids.items) c.if-not-goes_on.false (c.in_ok-goes_on.ensures.told clean events now) in
          paged_on c.args.live.now.attempts (rows_by_id events) c.args.after.now c.args.most c.loop.behind c.pass_row.new.behind c.loop.ids.items c.pass_row.new.ids.items
          (begun_rise events store.accepted) (omega (arith, c.len.ensures, c.if-len-most.false)) passed (c.loop.invariant.told early events store none);
      looks = looks_on g.S.Store c.args.tables.now c.loop.tables c.pass_row.new.tables c.loop.invariant.looks c.pass_row.ensures.looks;
    }

pub returns-then-len-most-clause-told : goal.returns-then-len-most-clause-told
returns-then-len-most-clause-told g c = λ clean events store none.
    paged_full c.args.live.now.attempts (rows_by_id events) c.args.after.now c.args.most c.loop.behind c.loop.ids.items (omega (arith, c.len.ensures, c.if-len-most.true)) (c.loop.invariant.told clean events store none)

pub returns-then-not-goes_on-clause-told : goal.returns-then-not-goes_on-clause-told
returns-then-not-goes_on-clause-told g c = λ clean events store none.
    let old : State = state g.S.Store c.args.tables.now in
    let mid : State = state g.S.Store c.loop.tables in
    let early : HasCleanDisk mid = omega (arith, c.pass_row.ensures.looks.crash.clean, clean) in
    let now = store_kept events old mid c.loop.invariant.looks.crash c.loop.invariant.looks.kept store in
    let passed = subst (λ (b : Bool). IsPassed c.args.live.now.attempts (rows_behind events (Some c.loop.behind)) b c.pass_row.new.behind c.loop.ids.items c.pass_row.new.ids.items) c.if-not-goes_on.true (c.in_ok-goes_on.ensures.told clean events now) in
    paged_all c.args.live.now.attempts (rows_by_id events) c.args.after.now c.args.most c.loop.behind c.pass_row.new.behind c.loop.ids.items c.pass_row.new.ids.items passed (c.loop.invariant.told early events store none)

pub returns-in_err-goes_on-clause-told : goal.returns-in_err-goes_on-clause-told
returns-in_err-goes_on-clause-told g c = λ clean events store none.
    let old : State = state g.S.Store c.args.tables.now in
    let mid : State = state g.S.Store c.loop.tables in
    let early : HasCleanDisk mid = omega (arith, c.pass_row.ensures.looks.crash.clean, clean) in
    let now = store_kept events old mid c.loop.invariant.looks.crash c.loop.invariant.looks.kept store in
    told_err (λ _. c.pass_row.new.ids.items ≡ take c.args.most (due_among c.args.live.now.attempts (rows_behind events (Some c.args.after.now)))) c.from_residual-in_err-goes_on.result c.from_residual-in_err-goes_on.ensures.1 (λ why gives.
    subst (IsRefused []) (sym gives) (c.in_err-goes_on.ensures.told clean events now))

pub returns-in_err-goes_on-clause-cause : goal.returns-in_err-goes_on-clause-cause
returns-in_err-goes_on-clause-cause g c =
    err_later (state g.S.Store c.args.tables.now) (state g.S.Store c.loop.tables) (state g.S.Store c.pass_row.new.tables) _ _ c.loop.invariant.looks.crash c.pass_row.ensures.looks.crash _
    (cause_by (state g.S.Store c.loop.tables) (state g.S.Store c.pass_row.new.tables) _ c.from_residual-in_err-goes_on.result c.from_residual-in_err-goes_on.ensures.1 c.in_err-goes_on.ensures.cause)
