use Rattle.std.proofs.Common.{None}
use Rattle.vm_machine.proofs.Admitted.{steps_made}
use Rattle.vm_machine.specs.Causes.{NumberCauses}
use Rattle.vm_feeding.specs.CommandlessCalls.{IsCalled}
use Rattle.vm_feeding.specs.Handles.{MakesSignal, IsNoSignal}
use Rattle.vm_feeding.proofs.Called.{called}
use Rattle.vm_feeding.proofs.signals.create_signal_handle.Goals as goal

pub returns-in-Admitted : goal.returns-in-Admitted
returns-in-Admitted c =
    steps_made (IsCalled (MakesSignal c.args.name) NumberCauses) IsNoSignal None c.args.vm.now c.admit.new.self
    c.answer.result c.answer.new.vm c.in-Admitted.ensures
    (called (MakesSignal c.args.name) NumberCauses c.admit.new.self c.create_signal_handle-made.result c.create_signal_handle-made.new.self
    c.answer.result c.answer.new.vm (c.create_signal_handle-made.ensures.made, c.create_signal_handle-made.ensures.told, c.create_signal_handle-made.ensures.gives) c.answer.ensures)
