-- Proved in `Children`.
use Rattle.vm_request_laws.proofs.Children.{awaited_trees_fit}
use Rattle.vm_request_laws.proofs.awaited_trees_fit.Goals as goal

pub returns : goal.returns
returns c = awaited_trees_fit
