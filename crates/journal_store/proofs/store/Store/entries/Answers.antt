use Rattle.journal_store.proofs.Asking.{asked}
use Rattle.journal_store.proofs.store.Store.entries.Goals as goal

pub returns-clause-told : goal.returns-clause-told
returns-clause-told g c clean = asked g.S.Store c.self.inside.tables c.entries.new.tables c.self.inside.live c.args.self.now c.self.view_is c.entries.ensures.looks _ (c.entries.ensures.told clean)
