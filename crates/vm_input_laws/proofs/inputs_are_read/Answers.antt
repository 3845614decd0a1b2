-- Proved in `Given`.
use Rattle.vm_input_laws.proofs.Given.{inputs_are_read}
use Rattle.vm_input_laws.proofs.inputs_are_read.Goals as goal

pub returns : goal.returns
returns c = inputs_are_read c.calls_follow_the_input.ensures
