-- The law is proved in `Handing`.
use Rattle.schedule_laws.proofs.HandedInput.{hands_out_input}
use Rattle.schedule_laws.proofs.inputs_are_handed_out.Goals as goal

pub returns : goal.returns
returns c = hands_out_input
