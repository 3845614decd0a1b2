use Rattle.journal_store.proofs.Asking.{asked_live}
use Rattle.journal_store.proofs.store.Store.due_after.Goals as goal

pub returns-clause-told : goal.returns-clause-told
returns-clause-told g c clean =
    asked_live g.S.Store c.self.inside.tables c.due_after.new.tables c.self.inside.live c.args.self.now c.self.view_is c.due_after.ensures.looks _ (λ events stands.
    c.due_after.ensures.told clean events stands.kept stands.live)
