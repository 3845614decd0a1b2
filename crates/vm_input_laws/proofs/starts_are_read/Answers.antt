-- Proved in `Starting`.
use Rattle.vm_input_laws.proofs.MachineStart.{starts_are_read}
use Rattle.vm_input_laws.proofs.starts_are_read.Goals as goal

pub returns : goal.returns
returns c = starts_are_read c.starts_are_kept.ensures c.messages_are_kept.ensures
