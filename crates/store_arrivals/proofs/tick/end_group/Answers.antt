use Rattle.std.proofs.Common.{arith}
use Rattle.sqlite.specs.Held.{state}
use Rattle.sqlite.specs.State.{State, HasCleanDisk}
use Rattle.store_refusals.proofs.Causes.{err_later}
use Rattle.store_invocations.proofs.Standing.{store_kept}
use Rattle.store_arrivals.specs.SleepGroups.{as_group}
use Rattle.store_arrivals.specs.PreparedTicks.{group_tests}
use Rattle.store_arrivals.proofs.Rowed.{group_ended, is_no_cause}
use Rattle.store_arrivals.proofs.tick.end_group.Goals as goal

pub returns-in-Ok-clause-decided : goal.returns-in-Ok-clause-decided
returns-in-Ok-clause-decided g c clean events store opened =
    let old : State = state g.S.Store c.args.tables.now in
    let mid : State = state g.S.Store c.open_row.new.tables in
    let early : HasCleanDisk mid = omega (arith, c.end_open-ended.ensures.looks.crash.clean, clean) in
    let of = (c.in-Ok.ensures.decided early events store).1 in
    let now = store_kept events old mid c.open_row.ensures.looks.crash c.open_row.ensures.looks.kept store in
    group_ended events (as_group c.args.group) c.in-Ok.row c.args.writes.now.items c.end_open-ended.new.writes.items c.end_open-ended.result of.0
    (rw (c.as_slice.ensures.value, c.into_vec-completions.ensures.items) at (c.end_open-ended.ensures.decided clean events c.args.group.invocation now of))

pub returns-in-Err-clause-decided : goal.returns-in-Err-clause-decided
returns-in-Err-clause-decided g c clean events store opened =
    is_no_cause events c.args.group.invocation (group_tests events (as_group c.args.group)) c.in-Err.why opened (c.in-Err.ensures.decided clean events store)

pub returns-in-Ok-clause-cause : goal.returns-in-Ok-clause-cause
returns-in-Ok-clause-cause g c =
    err_later (state g.S.Store c.args.tables.now) (state g.S.Store c.open_row.new.tables) (state g.S.Store c.end_open-ended.new.tables) _ _ c.open_row.ensures.looks.crash c.end_open-ended.ensures.looks.crash
    c.end_open-ended.result c.end_open-ended.ensures.cause
