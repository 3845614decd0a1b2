use Rattle.vm_machine.proofs.StateBeforeInput.{sees_behind_input}
use Rattle.vm_machine.proofs.laws.calls_follow_the_input.Goals as goal

pub returns : goal.returns
returns c = sees_behind_input
