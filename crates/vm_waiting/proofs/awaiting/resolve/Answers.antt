use Rattle.journal_model.specs.Future.{tree_of}
use Rattle.vm_awaits.specs.Views.{results_of}
use Rattle.vm_waiting.proofs.ResolveLemmas.{resolves}
use Rattle.vm_waiting.proofs.awaiting.resolve.Goals as goal

pub returns : goal.returns
returns c =
    resolves c.args.cancellation (tree_of c.args.future) _ (results_of c.args.results.now) (results_of c.try_resolve_future.new.self) c.try_resolve_future.result c.in_ok-whole.ensures
    c.try_resolve_future.ensures.resolved c.try_resolve_future.ensures.left c.try_resolve_future.ensures.delivery c.try_resolve_future.ensures.slots
