-- The fields of a sleep command.
use Rattle.std.specs.Prelude.{IsUtf8, List, [], ℕ, ◌<◌, ◌^◌, ◌∷◌}
use Rattle.protocol_wire.specs.Wire.{Field}
use Rattle.protocol_wire.specs.Selection.{text, u32, u64}
use Rattle.protocol_wire.specs.Parts.{Part, plain_bytes, plain_number}
use Rattle.protocol_table.specs.declared.table.sleep_command.TheConstants.{WAKE_UP_TIME, RESULT_COMPLETION_ID, NAME}
use Rattle.protocol_records.specs.declared.sleep_command.SleepCommandMessage.{SleepCommandMessage}

abbrev pub sleep_command_of : ℕ → List Field → SleepCommandMessage
sleep_command_of levels fs = record {
  wake_up_time = u64 WAKE_UP_TIME.number fs;
  result_completion_id = u32 RESULT_COMPLETION_ID.number fs;
  name = text NAME.number fs;
}

abbrev pub sleep_command_parts : SleepCommandMessage → List Part
sleep_command_parts v =
    plain_number WAKE_UP_TIME.number v.wake_up_time ∷
    plain_number RESULT_COMPLETION_ID.number v.result_completion_id ∷
    plain_bytes NAME.number v.name ∷ []

pub record SleepCommandFits (levels : ℕ) (v : SleepCommandMessage) : Type 0 where
  pub level : 0 < levels
  pub wake_up_time : v.wake_up_time < 2 ^ 64
  pub result_completion_id : v.result_completion_id < 2 ^ 32
  pub name : IsUtf8 v.name
