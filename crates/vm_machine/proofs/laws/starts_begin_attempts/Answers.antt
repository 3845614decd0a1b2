use Rattle.vm_machine.proofs.StateBeforeInput.{begins_gathering}
use Rattle.vm_machine.proofs.laws.starts_begin_attempts.Goals as goal

pub returns : goal.returns
returns c = begins_gathering
