-- The fields of an output command.
use Rattle.std.specs.Prelude.{◌⊎◌, IsUtf8, List, ℕ, ◌-◌, ◌<◌, ◌∷◌}
use Rattle.std.proofs.Common.{inl, inr}
use Rattle.protocol_wire.specs.Wire.{Field}
use Rattle.protocol_wire.specs.Selection.{text}
use Rattle.protocol_wire.specs.Parts.{Part, plain_bytes}
use Rattle.protocol_table.specs.declared.table.output_command.TheConstants.{FAILURE, NAME, RESULT, VALUE}
use Rattle.protocol_records.specs.Choice.{EitherField, ChoiceFits, choice_parts, chosen, failure_at, value_alternative}
use Rattle.protocol_records.specs.declared.failure.Failure.{Failure}
use Rattle.protocol_records.specs.declared.value.Value.{Value}
use Rattle.protocol_records.specs.declared.output_command.OutputCommandMessage.{OutputCommandMessage}
use Rattle.protocol_records.specs.declared.output_command.OutputCommandResult.{OutputCommandResult}
use Rattle.protocol_records.specs.declared.output_command.OutputCommandResult.TheVariants as results

abbrev pub opened : OutputCommandResult → Value ⊎ Failure
opened (results.Value v) = inl v
opened (results.Failure f) = inr f

abbrev pub output_choice : EitherField Value Failure OutputCommandResult
output_choice = record { numbers = RESULT; first = value_alternative VALUE.number; second = failure_at FAILURE.number; of_first = λ v. results.Value v; of_second = λ f. results.Failure f; opened = opened }

abbrev pub output_command_of : ℕ → List Field → OutputCommandMessage
output_command_of levels fs = record {
  name = text NAME.number fs;
  result = chosen output_choice levels fs;
}

abbrev pub output_command_parts : OutputCommandMessage → List Part
output_command_parts v =
    plain_bytes NAME.number v.name ∷
    choice_parts output_choice v.result

pub record OutputCommandFits (levels : ℕ) (v : OutputCommandMessage) : Type 0 where
  pub level : 0 < levels
  pub name : IsUtf8 v.name
  pub result : ChoiceFits output_choice (levels - 1) v.result
