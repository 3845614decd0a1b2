use Rattle.std.proofs.Common.{refl, Ok, Err}
use Rattle.vm_feeding.specs.Handles.{TakesFirstResult, TakeCauses}
use Rattle.vm_feeding.proofs.Called.{called}
use Rattle.vm_feeding.proofs.taking.make_take.Goals as goal

pub returns-in-Ok : goal.returns-in-Ok
returns-in-Ok c =
    called (TakesFirstResult c.args.handle) TakeCauses c.args.vm.now (Ok c.in-Ok.taken) c.take.new.active (Ok c.in-Ok.taken) _
    (record { taken = c.in-Ok.ensures.taken; value = c.in-Ok.ensures.value; rest = c.in-Ok.ensures.rest; children = c.in-Ok.ensures.children; others = c.in-Ok.ensures.others }) (refl, refl)

pub returns-in-Err : goal.returns-in-Err
returns-in-Err c =
    called (TakesFirstResult c.args.handle) TakeCauses c.args.vm.now (Err c.in-Err.error) c.take.new.active (Err c.fail.result) c.fail.new.self
    (record { taken = c.in-Err.ensures.taken; value = c.in-Err.ensures.value; rest = c.in-Err.ensures.rest; children = c.in-Err.ensures.children; others = c.in-Err.ensures.others })
    (record { cause = c.take_cause.result; causes = c.take_cause.ensures; fails = c.fail.ensures })
