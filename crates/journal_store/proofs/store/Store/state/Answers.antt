use Rattle.journal_store.proofs.Asking.{asked}
use Rattle.journal_store.proofs.store.Store.state.Goals as goal

pub returns-clause-told : goal.returns-clause-told
returns-clause-told g c clean = asked g.S.Store c.self.inside.tables c.object_states.new.tables c.self.inside.live c.args.self.now c.self.view_is c.object_states.ensures.looks _ (c.object_states.ensures.told clean)
