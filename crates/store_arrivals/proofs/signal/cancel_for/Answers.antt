use Rattle.store_arrivals.proofs.Signalling.{cancel_ready}
use Rattle.store_arrivals.proofs.signal.cancel_for.Goals as goal

pub returns-clause-decided : goal.returns-clause-decided
returns-clause-decided g c clean events id store of =
    cancel_ready events id c.args.row store.accepted of c.prepare_woken.result (c.prepare_woken.ensures.decided clean events id store of)
