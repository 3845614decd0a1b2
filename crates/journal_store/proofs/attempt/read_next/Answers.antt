use Rattle.std.proofs.Common.{sym, subst, []}
use Rattle.sqlite.specs.Held.{state}
use Rattle.store_refusals.specs.RefusalConditions.{IsRefused}
use Rattle.store_refusals.proofs.Causes.{cause_by}
use Rattle.journal_store.proofs.Reading.{reads_none, reads_on}
use Rattle.journal_store.proofs.attempt.read_next.Goals as goal

pub returns-clause-reads : goal.returns-clause-reads
returns-clause-reads g c =
    reads_on g.S.Store c.args.tables.now c.frame_wanted.new.tables c.args.live.now c.args.id.now c.frame_wanted.ensures.looks c.put_wanted.new.live c.in_ok-found.found
    c.in_ok-found.ensures.told c.put_wanted.ensures.told c.put_wanted.ensures.waits

pub returns-in_err-found-clause-reads : goal.returns-in_err-found-clause-reads
returns-in_err-found-clause-reads g c =
    reads_none g.S.Store c.args.tables.now c.frame_wanted.new.tables c.args.live.now c.args.id.now c.frame_wanted.ensures.looks c.args.live.now c.from_residual.result c.from_residual.ensures.1
    (λ why gives clean events store has fits. subst (IsRefused []) (sym gives) (c.in_err-found.ensures.told clean events store has fits))

pub returns-in_err-found-clause-cause : goal.returns-in_err-found-clause-cause
returns-in_err-found-clause-cause g c =
    cause_by (state g.S.Store c.args.tables.now) (state g.S.Store c.frame_wanted.new.tables) _ c.from_residual.result c.from_residual.ensures.1 c.in_err-found.ensures.cause
