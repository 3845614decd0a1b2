use Rattle.vm_awaits.proofs.Seen.{seen_same}
use Rattle.vm_awaits.proofs.state.AsyncResultsState.new.Goals as goal

pub returns : goal.returns
returns c = seen_same c.args.signal_delivery _ _ _ _ _ _ c.new.ensures c.new-2.ensures c.new-3.ensures.items
