use Rattle.std.proofs.Common.{refl, ap}
use Rattle.journal_model.specs.declared.value.NonEmptyValue.{NonEmptyValue}
use Rattle.protocol_stream.proofs.RecordSpellings.{terminal_failures_read_back}
use Rattle.protocol_messages.specs.ConversionLaws.{OutputsReadBack}
use Rattle.protocol_messages.proofs.conversion_laws.outputs_read_back.Goals as goal

outputs_read_back : OutputsReadBack
outputs_read_back (NonEmptyValue.Success bytes) h = refl
outputs_read_back (NonEmptyValue.Failure failure) h = ap NonEmptyValue.Failure (terminal_failures_read_back failure h)

pub returns : goal.returns
returns c = outputs_read_back
