use Rattle.std.proofs.Common.{◌≡◌, refl}
use Rattle.journal_model.proofs.invocation.NewInvocation.for_handler.Goals as goal

pub returns-in-Ok : goal.returns-in-Ok
returns-in-Ok c = rw (c.in-Ok.ensures.ok, c.from_static.ensures) refl
