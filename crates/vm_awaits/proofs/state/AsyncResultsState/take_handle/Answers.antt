use Rattle.std.proofs.Common.{refl}
use Rattle.vm_awaits.proofs.Seen.{seen_same}
use Rattle.vm_awaits.proofs.state.AsyncResultsState.take_handle.Goals as goal

pub returns-clause-rest : goal.returns-clause-rest
returns-clause-rest c = seen_same _ _ _ _ _ _ _ refl c.take_for.ensures.ready c.take_for.ensures.slots
