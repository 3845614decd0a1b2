use Rattle.vm_context.proofs.Keeping.{others_keep}
use Rattle.vm_context.proofs.laws.other_requests_change_nothing.Goals as goal

pub returns : goal.returns
returns c = others_keep
