use Rattle.std.proofs.Common.{ap}
use Rattle.vm_types.specs.Reads.{EphemeralReads}
use Rattle.vm_feeding.proofs.ReadSteps.{registered, unregistered_for}
use Rattle.vm_feeding.proofs.registering.register.Goals as goal

pub returns-in-Ok : goal.returns-in-Ok
returns-in-Ok c =
    registered c.args.value c.args.vm.now c.in-Ok.id c.register_ready.new.self c.in-Ok.ensures.exhausted c.in-Ok.ensures.id c.in-Ok.ensures.ok

pub returns-in-Err : goal.returns-in-Err
returns-in-Err c =
    let old = c.args.vm.now in
    unregistered_for c.in-Err.error c.register_cause-cause.result old _ c.fail.result c.fail.new.self (ap (λ (reads : EphemeralReads). record old { reads = reads }) c.in-Err.ensures.err)
    c.in-Err.ensures.exhausted c.register_cause-cause.ensures c.fail.ensures
