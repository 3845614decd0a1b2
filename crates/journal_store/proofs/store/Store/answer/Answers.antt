use Rattle.journal_store.proofs.Asking.{asked}
use Rattle.journal_store.proofs.store.Store.answer.Goals as goal

pub returns-clause-told : goal.returns-clause-told
returns-clause-told g c clean = asked g.S.Store c.self.inside.tables c.answer.new.tables c.self.inside.live c.args.self.now c.self.view_is c.answer.ensures.looks _ (c.answer.ensures.told clean)
