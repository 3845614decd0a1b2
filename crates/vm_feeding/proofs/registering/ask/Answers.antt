use Rattle.std.proofs.Common.{inr, ap}
use Rattle.vm_types.specs.Reads.{EphemeralReads}
use Rattle.vm_feeding.proofs.ReadSteps.{asks, unregistered_for}
use Rattle.vm_feeding.proofs.registering.ask.Goals as goal

pub returns-in-Ok : goal.returns-in-Ok
returns-in-Ok c =
    asks c.args.key c.args.vm.now c.in-Ok.id c.register_in_flight.new.self c.send.result c.send.new.vm c.in-Ok.ensures.exhausted c.in-Ok.ensures.id c.in-Ok.ensures.ok c.send.ensures

pub returns-in-Err : goal.returns-in-Err
returns-in-Err c =
    let old = c.args.vm.now in
    inr (unregistered_for c.in-Err.error c.register_cause-cause.result old _ c.fail.result c.fail.new.self (ap (λ (reads : EphemeralReads). record old { reads = reads }) c.in-Err.ensures.err)
    c.in-Err.ensures.exhausted c.register_cause-cause.ensures c.fail.ensures)
