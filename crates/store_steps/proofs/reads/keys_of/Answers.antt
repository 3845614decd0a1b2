-- The keys of what is kept of an object are those by the events.
use Rattle.std.proofs.Common.{◌≡◌, sym, ap, subst, inr, refl, ◌∙◌, [], map}
use Rattle.journal_model.specs.declared.notification.NotificationResult.{NotificationResult}
use Rattle.journal_model.specs.Journal.{object_state}
use Rattle.journal_model.specs.State.{state_keys}
use Rattle.store_tables.specs.declared.row.StateRow.{StateRow}
use Rattle.sqlite.specs.Held.{state}
use Rattle.store_invocations.proofs.Reading.{told_err}
use Rattle.store_refusals.specs.RefusalConditions.{IsRefused}
use Rattle.store_refusals.proofs.Causes.{cause_by, memory_tells}
use Rattle.store_steps.proofs.Values.{keys_read}
use Rattle.store_steps.proofs.reads.keys_of.Goals as goal

pub returns-clause-told : goal.returns-clause-told
returns-clause-told g c clean events store =
    let object = c.args.object.now in
    ap NotificationResult.StateKeys
    (c.from_vec.ensures ∙ c.in_ok-keys.ensures
    ∙ ap (map (λ (row : StateRow). row.key)) (c.in_ok-states.ensures.told clean events store)
    ∙ keys_read object (object_state events object))

pub returns-in_err-states-clause-told : goal.returns-in_err-states-clause-told
returns-in_err-states-clause-told g c clean events store =
    told_err (λ keys. keys ≡ NotificationResult.StateKeys (state_keys (object_state events c.args.object.now))) c.from_residual.result c.from_residual.ensures.1 (λ why gives.
    subst (IsRefused []) (sym gives) (c.in_err-states.ensures.told clean events store))

pub returns-in_err-keys-clause-told : goal.returns-in_err-keys-clause-told
returns-in_err-keys-clause-told g c clean events store =
    told_err (λ keys. keys ≡ NotificationResult.StateKeys (state_keys (object_state events c.args.object.now))) c.from_residual-in_err-keys.result c.from_residual-in_err-keys.ensures.1 (λ why gives.
    subst (IsRefused []) (sym gives) (inr refl))

pub returns-in_err-states-clause-cause : goal.returns-in_err-states-clause-cause
returns-in_err-states-clause-cause g c =
    cause_by (state g.S.Store c.args.tables.now) (state g.S.Store c.object_states.new.tables) c.in_err-states.field-0.0 c.from_residual.result c.from_residual.ensures.1 c.in_err-states.ensures.cause

pub returns-in_err-keys-clause-cause : goal.returns-in_err-keys-clause-cause
returns-in_err-keys-clause-cause g c =
    memory_tells (state g.S.Store c.args.tables.now) (state g.S.Store c.object_states.new.tables) c.from_residual-in_err-keys.result c.from_residual-in_err-keys.ensures.1
