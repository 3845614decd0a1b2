-- The fields of a get state ephemeral command.
use Rattle.std.specs.Prelude.{List, [], ℕ, ◌<◌, ◌^◌, ◌∷◌}
use Rattle.protocol_wire.specs.Wire.{Field}
use Rattle.protocol_wire.specs.Selection.{u32, text}
use Rattle.protocol_wire.specs.Parts.{Part, plain_bytes, plain_number}
use Rattle.protocol_table.specs.declared.table.get_state_ephemeral_command.TheConstants.{EPHEMERAL_COMPLETION_ID, KEY}
use Rattle.protocol_controls.specs.declared.get_state_ephemeral_command.GetStateEphemeralCommandMessage.{GetStateEphemeralCommandMessage}

abbrev pub get_state_ephemeral_command_of : ℕ → List Field → GetStateEphemeralCommandMessage
get_state_ephemeral_command_of levels fs = record {
  ephemeral_completion_id = u32 EPHEMERAL_COMPLETION_ID.number fs;
  key = text KEY.number fs;
}

abbrev pub get_state_ephemeral_command_parts : GetStateEphemeralCommandMessage → List Part
get_state_ephemeral_command_parts v =
    plain_number EPHEMERAL_COMPLETION_ID.number v.ephemeral_completion_id ∷
    plain_bytes KEY.number v.key ∷ []

pub record GetStateEphemeralCommandFits (levels : ℕ) (v : GetStateEphemeralCommandMessage) : Type 0 where
  pub level : 0 < levels
  pub ephemeral_completion_id : v.ephemeral_completion_id < 2 ^ 32
