use Rattle.std.proofs.Common.{◌≡◌, ap, ◌∙◌, not, true}
use Rattle.store_tables.proofs.Chained.{idle_lasts}
use Rattle.store_tables.proofs.tables.StoreTables.is_settled.Goals as goal

pub returns-clause-value : goal.returns-clause-value
returns-clause-value g c = c.is_autocommit.ensures.value ∙ ap not c.self.invariant.1

pub returns-clause-settled : goal.returns-clause-settled
returns-clause-settled g c =
    let idle : c.is_autocommit.result ≡ true = c.is_autocommit.ensures.value ∙ ap not c.self.invariant.1 in
    rw (← c.self.view_is) (idle_lasts g.S.Store g.met.S.Store.settled c.self.inside.connection (λ is_open. c.is_autocommit.ensures.settled idle is_open))

pub returns-clause-store : goal.returns-clause-store
returns-clause-store g c = rw (← c.self.view_is) c.self.invariant.0
