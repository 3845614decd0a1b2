use Rattle.std.proofs.Common.{Result, subst, sym}
use Rattle.std.specs.declared.alloc.AllocError.{AllocError}
use Rattle.protocol_errors.specs.declared.error.Error.{Error}
use Rattle.vm_start.specs.FailureReport.{TellsError, TellsFailureCause}
use Rattle.vm_start.proofs.failing.tell_cause.Goals as goal

pub returns-in-Ok : goal.returns-in-Ok
returns-in-Ok c =
    let old = c.args.output.now in
    subst (λ (cause : Result Error AllocError). TellsFailureCause c.args.version c.args.asked cause old c.tell.result c.tell.new.output) (sym c.in-Ok.is)
    (subst (λ (error : Error). TellsError error old c.tell.result c.tell.new.output) c.fail_with.ensures c.tell.ensures)
