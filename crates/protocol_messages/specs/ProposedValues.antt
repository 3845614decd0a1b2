-- What commands carry of the values that handlers hand out.
use Rattle.journal_model.specs.declared.value.NonEmptyValue.{NonEmptyValue}
use Rattle.protocol_stream.specs.Records.{failure_record}
use Rattle.protocol_controls.specs.declared.propose_run_completion.ProposeRunCompletionResult.{ProposeRunCompletionResult}
use Rattle.protocol_controls.specs.declared.propose_run_completion.ProposeRunCompletionResult.TheVariants as proposals

abbrev pub proposed_record : NonEmptyValue → ProposeRunCompletionResult
proposed_record (NonEmptyValue.Success bytes) = proposals.Value bytes
proposed_record (NonEmptyValue.Failure failure) = proposals.Failure (failure_record failure)
