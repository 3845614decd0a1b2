use Rattle.journal_store.proofs.Asking.{asked}
use Rattle.journal_store.proofs.store.Store.failure.Goals as goal

pub returns-clause-told : goal.returns-clause-told
returns-clause-told g c clean = asked g.S.Store c.self.inside.tables c.failure.new.tables c.self.inside.live c.args.self.now c.self.view_is c.failure.ensures.looks _ (c.failure.ensures.told clean)
