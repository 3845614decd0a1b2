use Rattle.vm_awaits.specs.ReadyViews.{ready_in}
use Rattle.vm_awaits.proofs.Lining.{looked_over, stays_over}
use Rattle.vm_awaits.proofs.state.AsyncResultsState.look_at_one.Goals as goal

pub returns-clause-ok : goal.returns-clause-ok
returns-clause-ok c =
    let old = c.args.self.now in
    looked_over old.signal_delivery c.look_at_one.result old.line (ready_in old.ready) c.look_at_one.new.self (ready_in c.look_at_one.new.ready) old.slots.items c.look_at_one.ensures.ok

pub returns-clause-err : goal.returns-clause-err
returns-clause-err c =
    let old = c.args.self.now in
    stays_over old.signal_delivery c.look_at_one.result old.line (ready_in old.ready) c.look_at_one.new.self (ready_in c.look_at_one.new.ready) old.slots.items c.look_at_one.ensures.err
