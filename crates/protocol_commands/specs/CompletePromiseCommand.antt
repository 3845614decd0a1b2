-- The fields of a complete promise command.
use Rattle.std.specs.Prelude.{IsUtf8, List, [], ℕ, ◌-◌, ◌<◌, ◌^◌, ◌∷◌, ◌++◌}
use Rattle.protocol_wire.specs.Wire.{Field}
use Rattle.protocol_wire.specs.Selection.{u32, text}
use Rattle.protocol_wire.specs.Parts.{Part, plain_bytes, plain_number}
use Rattle.protocol_table.specs.declared.table.complete_promise_command.TheConstants.{KEY, NAME, RESULT_COMPLETION_ID}
use Rattle.protocol_records.specs.Choice.{ChoiceFits, choice_parts, chosen}
use Rattle.protocol_commands.specs.declared.complete_promise_command.CompletePromiseCommandMessage.{CompletePromiseCommandMessage}
use Rattle.protocol_commands.specs.Choices.{promise_choice}

abbrev pub complete_promise_command_of : ℕ → List Field → CompletePromiseCommandMessage
complete_promise_command_of levels fs = record {
  key = text KEY.number fs;
  completion = chosen promise_choice levels fs;
  result_completion_id = u32 RESULT_COMPLETION_ID.number fs;
  name = text NAME.number fs;
}

abbrev pub complete_promise_command_parts : CompletePromiseCommandMessage → List Part
complete_promise_command_parts v =
    plain_bytes KEY.number v.key ∷
    (choice_parts promise_choice v.completion ++ (
    plain_number RESULT_COMPLETION_ID.number v.result_completion_id ∷
    plain_bytes NAME.number v.name ∷ []))

pub record CompletePromiseCommandFits (levels : ℕ) (v : CompletePromiseCommandMessage) : Type 0 where
  pub level : 0 < levels
  pub key : IsUtf8 v.key
  pub completion : ChoiceFits promise_choice (levels - 1) v.completion
  pub result_completion_id : v.result_completion_id < 2 ^ 32
  pub name : IsUtf8 v.name
