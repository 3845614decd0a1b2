use Rattle.std.proofs.Common.{refl, rules}
use Rattle.vm_c_machine.proofs.machine.Machine.sys_awakeable.Goals as goal

pub returns-in-Ok : goal.returns-in-Ok
returns-in-Ok c = (refl, rw (c.into_bytes.ensures.value, c.number.ensures) c.in-Ok.ensures.steps, refl)
