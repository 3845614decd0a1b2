use Rattle.std.proofs.Common.{ap}
use Rattle.vm_context.specs.Output.{Written}
use Rattle.vm_feeding.proofs.ReadSteps.{sent, unsent_for}
use Rattle.vm_feeding.proofs.registering.send.Goals as goal

pub returns-in-Ok : goal.returns-in-Ok
returns-in-Ok c = sent c.args.id c.args.key c.args.vm.now c.write_read.new.output c.in-Ok.ensures.too_long c.in-Ok.ensures.ok

pub returns-in-Err : goal.returns-in-Err
returns-in-Err c =
    let old = c.args.vm.now in
    unsent_for c.args.id c.args.key old c.in-Err.error c.send_cause-cause.result _ c.fail.result c.fail.new.self
    (ap (λ (output : Written). record old { active = record old.active { output = output } }) c.in-Err.ensures.err) c.in-Err.ensures.too_long c.send_cause-cause.ensures c.fail.ensures
