-- The fields of a complete awakeable command.
use Rattle.std.specs.Prelude.{IsUtf8, List, [], ℕ, ◌-◌, ◌<◌, ◌∷◌, ◌++◌}
use Rattle.protocol_wire.specs.Wire.{Field}
use Rattle.protocol_wire.specs.Selection.{text}
use Rattle.protocol_wire.specs.Parts.{Part, plain_bytes}
use Rattle.protocol_table.specs.declared.table.complete_awakeable_command.TheConstants.{AWAKEABLE_ID, NAME}
use Rattle.protocol_records.specs.Choice.{ChoiceFits, choice_parts, chosen}
use Rattle.protocol_calls.specs.declared.complete_awakeable_command.CompleteAwakeableCommandMessage.{CompleteAwakeableCommandMessage}
use Rattle.protocol_calls.specs.Choices.{awakeable_choice}

abbrev pub complete_awakeable_command_of : ℕ → List Field → CompleteAwakeableCommandMessage
complete_awakeable_command_of levels fs = record {
  awakeable_id = text AWAKEABLE_ID.number fs;
  result = chosen awakeable_choice levels fs;
  name = text NAME.number fs;
}

abbrev pub complete_awakeable_command_parts : CompleteAwakeableCommandMessage → List Part
complete_awakeable_command_parts v =
    plain_bytes AWAKEABLE_ID.number v.awakeable_id ∷
    (choice_parts awakeable_choice v.result ++ (
    plain_bytes NAME.number v.name ∷ []))

pub record CompleteAwakeableCommandFits (levels : ℕ) (v : CompleteAwakeableCommandMessage) : Type 0 where
  pub level : 0 < levels
  pub awakeable_id : IsUtf8 v.awakeable_id
  pub result : ChoiceFits awakeable_choice (levels - 1) v.result
  pub name : IsUtf8 v.name
