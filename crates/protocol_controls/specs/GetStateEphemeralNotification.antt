-- The fields of a get state ephemeral notification.
use Rattle.std.specs.Prelude.{List, ℕ, ◌-◌, ◌<◌, ◌^◌, ◌∷◌}
use Rattle.protocol_wire.specs.Wire.{Field}
use Rattle.protocol_wire.specs.Selection.{u32}
use Rattle.protocol_wire.specs.Parts.{Part, plain_number}
use Rattle.protocol_table.specs.declared.table.get_state_ephemeral_notification.TheConstants.{EPHEMERAL_COMPLETION_ID}
use Rattle.protocol_records.specs.Choice.{ChoiceFits, choice_parts, chosen}
use Rattle.protocol_controls.specs.declared.get_state_ephemeral_notification.GetStateEphemeralNotificationMessage.{GetStateEphemeralNotificationMessage}
use Rattle.protocol_controls.specs.Choices.{ephemeral_choice}

abbrev pub get_state_ephemeral_notification_of : ℕ → List Field → GetStateEphemeralNotificationMessage
get_state_ephemeral_notification_of levels fs = record {
  ephemeral_completion_id = u32 EPHEMERAL_COMPLETION_ID.number fs;
  result = chosen ephemeral_choice levels fs;
}

abbrev pub get_state_ephemeral_notification_parts : GetStateEphemeralNotificationMessage → List Part
get_state_ephemeral_notification_parts v =
    plain_number EPHEMERAL_COMPLETION_ID.number v.ephemeral_completion_id ∷
    choice_parts ephemeral_choice v.result

pub record GetStateEphemeralNotificationFits (levels : ℕ) (v : GetStateEphemeralNotificationMessage) : Type 0 where
  pub level : 0 < levels
  pub ephemeral_completion_id : v.ephemeral_completion_id < 2 ^ 32
  pub result : ChoiceFits ephemeral_choice (levels - 1) v.result
