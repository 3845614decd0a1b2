-- Proved in `Input`.
use Rattle.vm_input_laws.proofs.Input.{inputs_are_answered}
use Rattle.vm_input_laws.proofs.inputs_are_answered.Goals as goal

pub returns : goal.returns
returns c = inputs_are_answered c.inputs_are_read.ensures
