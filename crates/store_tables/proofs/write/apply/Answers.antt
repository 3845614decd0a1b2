use Rattle.std.proofs.Common.{sym, subst}
use Rattle.store_tables.specs.Records.{Write, applied}
use Rattle.store_tables.specs.Statements.{statements_of}
use Rattle.store_tables.specs.Steps.{Alters}
use Rattle.store_tables.proofs.write.apply.Goals as goal

pub returns-in-AddInvocation-clause-alters : goal.returns-in-AddInvocation-clause-alters
returns-in-AddInvocation-clause-alters g c =
    subst (λ (w : Write). Alters g.S.Store (applied w) (statements_of w) c.args.tx.now.conn.now c.add_invocation.new.tx.conn.now c.add_invocation.result) (sym c.in-AddInvocation.is) c.add_invocation.ensures.alters

pub returns-in-SetProgress-clause-alters : goal.returns-in-SetProgress-clause-alters
returns-in-SetProgress-clause-alters g c =
    subst (λ (w : Write). Alters g.S.Store (applied w) (statements_of w) c.args.tx.now.conn.now c.set_progress.new.tx.conn.now c.set_progress.result) (sym c.in-SetProgress.is) c.set_progress.ensures.alters
