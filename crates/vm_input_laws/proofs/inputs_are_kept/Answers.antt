-- Proved in `Inputs`.
use Rattle.vm_input_laws.proofs.Inputs.{inputs_are_kept}
use Rattle.vm_input_laws.proofs.inputs_are_kept.Goals as goal

pub returns : goal.returns
returns c = inputs_are_kept c.messages_are_kept.ensures
