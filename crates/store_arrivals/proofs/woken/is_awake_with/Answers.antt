use Rattle.std.proofs.Common.{sym, subst}
use Rattle.store_frames.specs.Answer.{KeepsSuspension}
use Rattle.store_arrivals.proofs.Waking.{asleep_before, awake_already, woken_now, woken_unheard}
use Rattle.store_arrivals.proofs.Suspended.{row_waits, row_waits_not}
use Rattle.store_arrivals.proofs.woken.is_awake_with.Goals as goal

pub returns-then-row-clause-told : goal.returns-then-row-clause-told
returns-then-row-clause-told g c clean events id store of = awake_already events id c.args.row.now c.args.new.now of.0 c.if-row.true

pub returns-in-None-clause-told : goal.returns-in-None-clause-told
returns-in-None-clause-told g c clean events id store of = woken_unheard events id c.args.new.now (row_waits_not events id c.args.row.now of.0 c.in-None.is)

pub returns-in-Some-clause-told : goal.returns-in-Some-clause-told
returns-in-Some-clause-told g c clean events id store of =
    let waits = row_waits events id c.args.row.now of.0 store.accepted store.read c.in-Some.suspension c.in-Some.is in
    let asleep = asleep_before events id c.args.row.now c.args.new.now of.0 of.1 c.if-row.false _ c.unwrap_or.ensures waits.suspension waits.is in
    woken_now events id c.args.row.now c.args.new.now of.0 c.if-row.false _ c.unwrap_or.ensures waits.suspension waits.is c.is_woken_by_new.result
    (c.is_woken_by_new.ensures.told clean events store waits.suspension waits.read (subst (KeepsSuspension waits.suspension) (sym c.as_slice.ensures) waits.keeps) asleep)
