use Rattle.std.proofs.Common.{sym, subst}
use Rattle.vm_context.specs.Output.{Written}
use Rattle.vm_waiting.specs.SuspensionFrames.{IsSuspended}
use Rattle.vm_waiting.specs.WaitsFor.{awaited_ids}
use Rattle.vm_waiting.proofs.WaitingFrames.{suspended}
use Rattle.vm_waiting.proofs.suspending.write_and_end.Goals as goal

pub returns : goal.returns
returns c =
    let old = c.args.active.now in
    let ids = awaited_ids old c.args.waits in
    subst (λ (output : Written). IsSuspended ids old (record old { output = output })) (sym c.send_eof.ensures)
    (suspended ids old c.write_suspension.new.output (c.in_ok-write_suspension.ensures ids c.in_ok-awaiting_on.ensures.told))
