-- The fields of a get eager state command.
use Rattle.std.specs.Prelude.{IsUtf8, List, ℕ, ◌-◌, ◌<◌, ◌∷◌}
use Rattle.protocol_wire.specs.Wire.{Field}
use Rattle.protocol_wire.specs.Selection.{text}
use Rattle.protocol_wire.specs.Parts.{Part, plain_bytes}
use Rattle.protocol_table.specs.declared.table.get_eager_state_command.TheConstants.{KEY, NAME}
use Rattle.protocol_records.specs.Choice.{ChoiceFits, choice_parts, chosen}
use Rattle.protocol_commands.specs.declared.get_eager_state_command.GetEagerStateCommandMessage.{GetEagerStateCommandMessage}
use Rattle.protocol_commands.specs.Choices.{eager_choice}

abbrev pub get_eager_state_command_of : ℕ → List Field → GetEagerStateCommandMessage
get_eager_state_command_of levels fs = record {
  key = text KEY.number fs;
  name = text NAME.number fs;
  result = chosen eager_choice levels fs;
}

abbrev pub get_eager_state_command_parts : GetEagerStateCommandMessage → List Part
get_eager_state_command_parts v =
    plain_bytes KEY.number v.key ∷
    plain_bytes NAME.number v.name ∷
    choice_parts eager_choice v.result

pub record GetEagerStateCommandFits (levels : ℕ) (v : GetEagerStateCommandMessage) : Type 0 where
  pub level : 0 < levels
  pub name : IsUtf8 v.name
  pub result : ChoiceFits eager_choice (levels - 1) v.result
