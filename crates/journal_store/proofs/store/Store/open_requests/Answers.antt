use Rattle.journal_store.proofs.Asking.{asked}
use Rattle.journal_store.proofs.store.Store.open_requests.Goals as goal

pub returns-clause-told : goal.returns-clause-told
returns-clause-told g c clean = asked g.S.Store c.self.inside.tables c.open_requests.new.tables c.self.inside.live c.args.self.now c.self.view_is c.open_requests.ensures.looks _ (c.open_requests.ensures.told clean)
