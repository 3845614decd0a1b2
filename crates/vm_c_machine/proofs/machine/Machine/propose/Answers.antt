use Rattle.std.proofs.Common.{refl, rules}
use Rattle.vm_c_machine.proofs.machine.Machine.propose.Goals as goal

pub returns-in-Ok : goal.returns-in-Ok
returns-in-Ok c = (search rules, rw c.new.ensures at c.in-Ok.ensures, refl)
