-- Proved in `Requests`.
use Rattle.vm_request_laws.proofs.Requests.{requests_read_back}
use Rattle.vm_request_laws.proofs.requests_read_back.Goals as goal

pub returns : goal.returns
returns c = requests_read_back
