-- Proved in `Beginning`.
use Rattle.vm_input_laws.proofs.NewMachineInput.{attempts_begin}
use Rattle.vm_input_laws.proofs.attempts_begin.Goals as goal

pub returns : goal.returns
returns c = attempts_begin c.starts_are_read.ensures c.inputs_are_answered.ensures
