use Rattle.std.proofs.Common.{refl}
use Rattle.vm_awaits.proofs.Seen.{seen_same}
use Rattle.vm_awaits.proofs.state.AsyncResultsState.insert_ready.Goals as goal

pub returns-in-Ok-clause-ok : goal.returns-in-Ok-clause-ok
returns-in-Ok-clause-ok c = seen_same _ _ _ _ _ _ _ refl c.in-Ok.ensures.ok refl

pub returns-in-Err-clause-err : goal.returns-in-Err-clause-err
returns-in-Err-clause-err c = seen_same _ _ _ _ _ _ _ refl c.in-Err.ensures.err refl
