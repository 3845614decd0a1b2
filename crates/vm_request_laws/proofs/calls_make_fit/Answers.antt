-- Proved in `Making`.
use Rattle.vm_request_laws.proofs.MadeRequests.{calls_make_fit}
use Rattle.vm_request_laws.proofs.calls_make_fit.Goals as goal

pub returns : goal.returns
returns c = calls_make_fit
