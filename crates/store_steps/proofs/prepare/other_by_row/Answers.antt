-- It is decided by the row, once it is known whether a suspension is awake at once.
use Rattle.std.proofs.Common.{refl}
use Rattle.sqlite.specs.Held.{state}
use Rattle.store_refusals.proofs.Causes.{err_unasked}
use Rattle.store_steps.proofs.Causes.{decided_unasked}
use Rattle.store_steps.proofs.Taking.{taken_by_row}
use Rattle.store_steps.proofs.Waking.{test_refused, unread_here}
use Rattle.store_steps.proofs.prepare.other_by_row.Goals as goal

pub returns-in-Ok-clause-prepared : goal.returns-in-Ok-clause-prepared
returns-in-Ok-clause-prepared g c clean events store of none =
    taken_by_row events store.accepted c.args.id.now c.args.row of c.args.attempt c.in-Ok.is_awake c.args.frame c.decide_by_row.result (unread_here c.args.frame none)
    (c.in-Ok.ensures.told clean events events store store.accepted refl of) c.decide_by_row.ensures.ok c.decide_by_row.ensures.err

pub returns-in-Err-clause-prepared : goal.returns-in-Err-clause-prepared
returns-in-Err-clause-prepared g c clean events store of none =
    test_refused events store.accepted c.args.id.now c.args.row of c.args.attempt c.args.frame c.in-Err.why (c.in-Err.ensures.told clean events events store store.accepted refl of)

pub returns-in-Ok-clause-cause : goal.returns-in-Ok-clause-cause
returns-in-Ok-clause-cause g c =
    err_unasked (state g.S.Store c.args.tables.now) (state g.S.Store c.wakes_at_once.new.tables) c.decide_by_row.result
    (decided_unasked c.args.row.progress c.args.attempt c.args.frame c.decide_by_row.result c.decide_by_row.ensures.err)
