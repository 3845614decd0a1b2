-- How records that others hold are printed, and the result of an output.
use Rattle.std.specs.Prelude.{ℕ, List, ◌++◌, decimal, codes}
use Rattle.protocol_types.specs.Texts.{quoted, escaped, list_text}
use Rattle.protocol_records.specs.declared.header.Header.{Header}
use Rattle.protocol_records.specs.declared.failure.FailureMetadata.{FailureMetadata}
use Rattle.protocol_records.specs.declared.failure.Failure.{Failure}
use Rattle.protocol_records.specs.declared.value.Value.{Value}
use Rattle.protocol_records.specs.declared.void.Void.{Void}
use Rattle.protocol_records.specs.declared.state_keys.StateKeys.{StateKeys}
use Rattle.protocol_records.specs.declared.output_command.OutputCommandResult.{OutputCommandResult}
use Rattle.protocol_records.specs.declared.output_command.OutputCommandResult.TheVariants as outputs

abbrev pub header_text : Header → List ℕ
header_text header = quoted header.key ++ (codes ": " ++ quoted header.value)

abbrev pub failure_metadata_text : FailureMetadata → List ℕ
failure_metadata_text pair = quoted pair.key ++ (codes ": " ++ quoted pair.value)

abbrev pub failure_text : Failure → List ℕ
failure_text failure = (codes "failure " ++ decimal failure.code) ++ (codes " " ++ quoted failure.message) ++ (codes " " ++ list_text failure_metadata_text failure.metadata)

abbrev pub value_text : Value → List ℕ
value_text value = escaped value.content

abbrev pub void_text : Void → List ℕ
void_text void = codes "void"

abbrev pub state_keys_text : StateKeys → List ℕ
state_keys_text held = list_text escaped held.keys

abbrev pub output_result_text : OutputCommandResult → List ℕ
output_result_text (outputs.Value value) = value_text value
output_result_text (outputs.Failure failure) = failure_text failure
