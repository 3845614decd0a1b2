use Rattle.std.proofs.Common.{◌≡◌, ◌∙◌, [], map, sym, ap, subst, arith, inr}
use Rattle.std.specs.List.{list_all}
use Rattle.std.specs.Str.{is_utf8}
use Rattle.sqlite.specs.Held.{state}
use Rattle.sqlite.specs.State.{State, HasCleanDisk}
use Rattle.journal_model.specs.Journal.{object_state}
use Rattle.store_tables.specs.declared.row.StateRow.{StateRow}
use Rattle.store_model.specs.KeptRecords.{state_row}
use Rattle.store_refusals.specs.declared.refusal.Refusal.TheVariants.{ForeignRow}
use Rattle.store_refusals.specs.RefusalConditions.{IsRefused}
use Rattle.store_invocations.proofs.Reading.{told_err}
use Rattle.store_invocations.proofs.Deciding.{states_are, states_known}
use Rattle.store_invocations.proofs.KeysOfStates.{text_kept}
use Rattle.store_refusals.proofs.Causes.{read_cause_by}
use Rattle.store_invocations.proofs.states.object_states.Goals as goal

pub returns-clause-told : goal.returns-clause-told
returns-clause-told g c clean events store =
    let old : State = state g.S.Store c.args.tables.now in
    let early : HasCleanDisk old = omega (arith, c.states_of.ensures.looks.crash.clean) in
    let k = store.keeps early (c.in_ok-states.ensures.open clean) in
    states_are events old c.args.object.now c.in_ok-states.states.items k (c.in_ok-states.ensures.arranged clean)

pub returns-then-not-are_keys_text-clause-told : goal.returns-then-not-are_keys_text-clause-told
returns-then-not-are_keys_text-clause-told g c clean events store =
    let old : State = state g.S.Store c.args.tables.now in
    let early : HasCleanDisk old = omega (arith, c.states_of.ensures.looks.crash.clean) in
    let k = store.keeps early (c.in_ok-states.ensures.open clean) in
    text_kept events c.args.object.now c.in_ok-states.states.items ForeignRow store.accepted (states_are events old c.args.object.now c.in_ok-states.states.items k (c.in_ok-states.ensures.arranged clean))
    (ap (list_all (λ (row : StateRow). is_utf8 row.key)) (sym c.as_slice.ensures.value) ∙ sym c.are_keys_text.ensures ∙ c.if-not-are_keys_text.true)

pub returns-in_err-states-clause-told : goal.returns-in_err-states-clause-told
returns-in_err-states-clause-told g c clean events store =
    let old : State = state g.S.Store c.args.tables.now in
    let early : HasCleanDisk old = omega (arith, c.states_of.ensures.looks.crash.clean) in
    told_err (λ states. states.items ≡ map (state_row c.args.object.now) (object_state events c.args.object.now)) c.from_residual.result c.from_residual.ensures.1 (λ why gives.
    subst (IsRefused []) (sym gives) (inr (states_known events old c.args.object.now _ (store.keeps early) (c.in_err-states.ensures.open clean) (c.in_err-states.ensures.foreign clean))))

pub returns-in_err-states-clause-cause : goal.returns-in_err-states-clause-cause
returns-in_err-states-clause-cause g c =
    read_cause_by (state g.S.Store c.args.tables.now) (state g.S.Store c.states_of.new.tables) _ c.from_residual.result c.from_residual.ensures.1 c.in_err-states.ensures.cause
