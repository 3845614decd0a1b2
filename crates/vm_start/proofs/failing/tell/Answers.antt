use Rattle.std.proofs.Common.{inl, refl}
use Rattle.vm_start.proofs.failing.tell.Goals as goal

pub returns-in-Ok : goal.returns-in-Ok
returns-in-Ok c = inl (refl, c.in-Ok.ensures.ok)
