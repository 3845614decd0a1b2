use Rattle.journal_store.proofs.Asking.{asked}
use Rattle.journal_store.proofs.store.Store.invocations.Goals as goal

pub returns-clause-told : goal.returns-clause-told
returns-clause-told g c clean = asked g.S.Store c.self.inside.tables c.invocations_after.new.tables c.self.inside.live c.args.self.now c.self.view_is c.invocations_after.ensures.looks _ (c.invocations_after.ensures.told clean)
