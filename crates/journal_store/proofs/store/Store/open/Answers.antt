use Rattle.sqlite.specs.State.{State}
use Rattle.sqlite.specs.Held.{state}
use Rattle.journal_store.specs.OpeningConditions.{MakesTables}
use Rattle.journal_store.proofs.Standing.{store_still}
use Rattle.journal_store.proofs.Opening.{opened_fresh, opened_left}
use Rattle.journal_store.proofs.store.Store.open.Goals as goal

pub returns-in-Ok-clause-fresh : goal.returns-in-Ok-clause-fresh
returns-in-Ok-clause-fresh g c =
    rw c.of.ensures (λ clean empty. opened_fresh (state g.S.Store c.take_tables.new.conn) c.new.result.attempts c.new.ensures (c.in-Ok.ensures.fresh clean empty))

pub returns-in-Ok-clause-left : goal.returns-in-Ok-clause-left
returns-in-Ok-clause-left g c =
    rw c.of.ensures (λ clean taken events store.
    let old : State = state g.S.Store c.args.connection in
    let new : State = state g.S.Store c.take_tables.new.conn in
    opened_left events new c.new.result.attempts c.new.ensures (store_still events old new (MakesTables old) c.take_tables.ensures.crash (c.in-Ok.ensures.kept clean taken) store))
