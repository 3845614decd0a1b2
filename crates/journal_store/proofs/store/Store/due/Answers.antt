use Rattle.std.proofs.Common.{◌≡◌, [], sym, subst}
use Rattle.sqlite.specs.Held.{state}
use Rattle.journal_model.specs.Attempt.{due}
use Rattle.store_refusals.specs.RefusalConditions.{IsRefused}
use Rattle.store_refusals.proofs.Causes.{cause_by}
use Rattle.store_invocations.proofs.Reading.{told_err}
use Rattle.journal_store.proofs.Asking.{asked, asked_live}
use Rattle.journal_store.proofs.Flagged.{left_are_due}
use Rattle.journal_store.proofs.store.Store.due.Goals as goal

pub returns-clause-told : goal.returns-clause-told
returns-clause-told g c clean =
    asked_live g.S.Store c.self.inside.tables c.awake_ids.new.tables c.self.inside.live c.args.self.now c.self.view_is c.awake_ids.ensures.looks _ (λ events stands.
    left_are_due events c.self.inside.live.attempts stands.live _ _ c.leave_out_live.ensures (c.in_ok-ids.ensures.told clean events stands.kept))

pub returns-in_err-ids-clause-told : goal.returns-in_err-ids-clause-told
returns-in_err-ids-clause-told g c clean =
    asked g.S.Store c.self.inside.tables c.awake_ids.new.tables c.self.inside.live c.args.self.now c.self.view_is c.awake_ids.ensures.looks _ (λ events store.
    told_err (λ ids. ids.items ≡ due events) c.from_residual.result c.from_residual.ensures.1 (λ why gives. subst (IsRefused []) (sym gives) (c.in_err-ids.ensures.told clean events store)))

pub returns-in_err-ids-clause-cause : goal.returns-in_err-ids-clause-cause
returns-in_err-ids-clause-cause g c =
    rw (← c.self.view_is) (cause_by (state g.S.Store c.self.inside.tables) (state g.S.Store c.awake_ids.new.tables) _ c.from_residual.result c.from_residual.ensures.1 c.in_err-ids.ensures.cause)
