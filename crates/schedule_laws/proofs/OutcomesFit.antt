-- The outcome of a run that an attempt can propose is one that its notification can tell.
use Rattle.std.proofs.Common.{◌<◌, ◌^◌, ℕ, arith}
use Rattle.journal_model.specs.declared.value.NonEmptyValue.{NonEmptyValue}
use Rattle.journal_model.specs.Journal.{completion}
use Rattle.journal_model.specs.Value.{result_of_value}
use Rattle.vm_request_laws.specs.Calls.{IsTypedValue}
use Rattle.vm_request_laws.proofs.Records.{output_fits}
use Rattle.schedule_model.specs.ArgumentBounds.{ResultFits}

pub outcome_fits : (n : ℕ) (value : NonEmptyValue) → n < 2 ^ 32 → IsTypedValue value → ResultFits (completion n (result_of_value value))
outcome_fits n (NonEmptyValue.Success bytes) small typed = record { level = omega arith; id = small; result = record { level = omega arith } }
outcome_fits n (NonEmptyValue.Failure failure) small typed = record { level = omega arith; id = small; result = output_fits (NonEmptyValue.Failure failure) typed }
