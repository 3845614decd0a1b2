-- Which of two fields a record of this crate has.
use Rattle.std.specs.Prelude.{◌⊎◌, List, ℕ}
use Rattle.std.proofs.Common.{inl, inr}
use Rattle.protocol_table.specs.declared.table.get_state_ephemeral_notification.TheConstants as get_state_ephemeral_notification
use Rattle.protocol_table.specs.declared.table.propose_run_completion.TheConstants as propose_run_completion
use Rattle.protocol_records.specs.Choice.{EitherField, bytes_at, failure_at, value_alternative, void_at}
use Rattle.protocol_records.specs.declared.failure.Failure.{Failure}
use Rattle.protocol_records.specs.declared.value.Value.{Value}
use Rattle.protocol_records.specs.declared.void.Void.{Void}
use Rattle.protocol_controls.specs.declared.get_state_ephemeral_notification.GetStateEphemeralNotificationResult.{GetStateEphemeralNotificationResult}
use Rattle.protocol_controls.specs.declared.get_state_ephemeral_notification.GetStateEphemeralNotificationResult.TheVariants as ephemeral_results
use Rattle.protocol_controls.specs.declared.propose_run_completion.ProposeRunCompletionResult.{ProposeRunCompletionResult}
use Rattle.protocol_controls.specs.declared.propose_run_completion.ProposeRunCompletionResult.TheVariants as proposal_results

abbrev pub ephemeral_opened : GetStateEphemeralNotificationResult → Void ⊎ Value
ephemeral_opened (ephemeral_results.Void v) = inl v
ephemeral_opened (ephemeral_results.Value v) = inr v

abbrev pub ephemeral_choice : EitherField Void Value GetStateEphemeralNotificationResult
ephemeral_choice = record { numbers = get_state_ephemeral_notification.RESULT; first = void_at get_state_ephemeral_notification.VOID.number; second = value_alternative get_state_ephemeral_notification.VALUE.number; of_first = λ v. ephemeral_results.Void v; of_second = λ v. ephemeral_results.Value v; opened = ephemeral_opened }

abbrev pub proposal_opened : ProposeRunCompletionResult → List ℕ ⊎ Failure
proposal_opened (proposal_results.Value v) = inl v
proposal_opened (proposal_results.Failure f) = inr f

abbrev pub proposal_choice : EitherField (List ℕ) Failure ProposeRunCompletionResult
proposal_choice = record { numbers = propose_run_completion.RESULT; first = bytes_at propose_run_completion.VALUE.number; second = failure_at propose_run_completion.FAILURE.number; of_first = λ v. proposal_results.Value v; of_second = λ f. proposal_results.Failure f; opened = proposal_opened }
