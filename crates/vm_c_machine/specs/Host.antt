-- What a host tells a machine by numbers.
use Rattle.std.specs.Prelude.{◌≡◌, ◌*◌, ◌-◌, ◌^◌, ℕ, if◌then◌else◌, Option, Some, None, Result}
use Rattle.std.specs.Duration.{as_nanos}
use Rattle.std.specs.declared.time.Duration.{Duration}
use Rattle.journal_model.specs.Notification.{Text}
use Rattle.protocol_errors.specs.Error.{plain_error}
use Rattle.protocol_errors.specs.declared.error.Error.{Error}
use Rattle.protocol_errors.specs.declared.error.ErrorBehavior.TheVariants as behaviors
use Rattle.vm_feeding.specs.HostErrors.{IsErrorTold}
use Rattle.vm_proposals.specs.ProposalEffects.{ProposesRun}
use Rattle.vm_refusals.specs.declared.retries.RetryPolicy.{RetryPolicy}
use Rattle.vm_refusals.specs.declared.runs.RunExitResult.TheVariants.{RetryableFailure}
use Rattle.vm_machine.specs.declared.machine_state.MachineState.{MachineState}
use Rattle.vm_c_values.specs.Options.{is_set}
use Rattle.vm_c_values.specs.Policies.{IsPolicy}
use Rattle.vm_c_values.specs.declared.policy.Policy.{Policy}

-- the greatest number says that none is given
abbrev pub IsDelay : (millis : ℕ) → Option Duration → Type 0
IsDelay millis None = millis ≡ 2 ^ 64 - 1
IsDelay millis (Some delay) = (millis ≡ 2 ^ 64 - 1 → ⊥) × (as_nanos delay ≡ millis * 1_000_000)

-- an error with this code and text, which is tried again after the delay, or pauses the invocation
abbrev pub IsErrorOfHost : (code : ℕ) → (message : Text) → (delay pause : ℕ) → Error → Type 0
IsErrorOfHost code message delay pause error =
    (error ≡ record (plain_error code message) { next_retry_delay = error.next_retry_delay; behavior = if is_set pause then behaviors.Pause else behaviors.Retry })
    × IsDelay delay error.next_retry_delay

pub record ToldByHost (code : ℕ) (message : Text) (delay pause : ℕ) (old new : MachineState) : Type 0 where
  pub error : Error
  pub error_is : IsErrorOfHost code message delay pause error
  pub tells : IsErrorTold error None old new
