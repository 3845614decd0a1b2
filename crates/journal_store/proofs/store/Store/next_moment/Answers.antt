use Rattle.journal_store.proofs.Asking.{asked}
use Rattle.journal_store.proofs.store.Store.next_moment.Goals as goal

pub returns-clause-told : goal.returns-clause-told
returns-clause-told g c clean = asked g.S.Store c.self.inside.tables c.next_moment.new.tables c.self.inside.live c.args.self.now c.self.view_is c.next_moment.ensures.looks _ (c.next_moment.ensures.told clean)
