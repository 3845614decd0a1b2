use Rattle.std.proofs.Common.{◌≡◌, ◌∙◌, List, sym, subst}
use Rattle.journal_model.specs.Spelling.{frame_bytes}
use Rattle.journal_model.specs.Cause.{those_that_hold}
use Rattle.protocol_types.specs.declared.message_type.MessageType.{MessageType}
use Rattle.store_tables.specs.declared.row.StateRow.{StateRow}
use Rattle.store_refusals.specs.RefusalConditions.{IsRefused}
use Rattle.store_invocations.specs.Rows.{Decides, payload_tests}
use Rattle.store_invocations.proofs.Reading.{decided_err}
use Rattle.store_invocations.proofs.Refusing.{refused_anyway}
use Rattle.store_invocations.specs.BegunAttempts.{shown_states}
use Rattle.store_invocations.specs.Start.{start_frame_payload}
use Rattle.store_invocations.proofs.prepare.begun_start.Goals as goal

pub returns-clause-decided : goal.returns-clause-decided
returns-clause-decided g c clean events store =
    subst (λ (states : List StateRow). Decides (payload_tests (start_frame_payload c.args.row.now states c.args.now)) (λ start. start ≡ frame_bytes MessageType.Start (start_frame_payload c.args.row.now states c.args.now)) c.start_frame-start.result)
    (c.as_slice.ensures.value ∙ c.in_ok-states.ensures.told clean events store) c.start_frame-start.ensures.decided

pub returns-in_err-states-clause-decided : goal.returns-in_err-states-clause-decided
returns-in_err-states-clause-decided g c clean events store =
    let tests = payload_tests (start_frame_payload c.args.row.now (shown_states events c.args.row.now) c.args.now) in
    decided_err tests (λ start. start ≡ frame_bytes MessageType.Start (start_frame_payload c.args.row.now (shown_states events c.args.row.now) c.args.now)) c.from_residual.result c.from_residual.ensures.1 (λ why gives.
    subst (IsRefused (those_that_hold tests)) (sym gives) (refused_anyway tests _ (c.in_err-states.ensures.told clean events store)))
