use Rattle.journal_store.proofs.Asking.{asked}
use Rattle.journal_store.proofs.store.Store.is_open.Goals as goal

pub returns-clause-told : goal.returns-clause-told
returns-clause-told g c clean = asked g.S.Store c.self.inside.tables c.is_open.new.tables c.self.inside.live c.args.self.now c.self.view_is c.is_open.ensures.looks _ (c.is_open.ensures.told clean)
