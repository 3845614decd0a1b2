-- The fields of an error.
use Rattle.std.specs.Prelude.{IsUtf8, IfSome, List, [], ℕ, ◌<◌, ◌^◌, ◌∷◌}
use Rattle.protocol_wire.specs.Wire.{Field}
use Rattle.protocol_wire.specs.Selection.{u32, text, optional_u32, optional_u64, optional_text}
use Rattle.protocol_wire.specs.Parts.{Part, enum_number, optional_number, optional_bytes, plain_bytes, plain_number}
use Rattle.protocol_table.specs.declared.table.error.TheConstants.{BEHAVIOR, CODE, MESSAGE, NEXT_RETRY_DELAY, RELATED_COMMAND_INDEX, RELATED_COMMAND_NAME, RELATED_COMMAND_TYPE}
use Rattle.protocol_controls.specs.declared.error.ErrorMessage.{ErrorMessage}

abbrev pub error_of : ℕ → List Field → ErrorMessage
error_of levels fs = record {
  code = u32 CODE.number fs;
  message = text MESSAGE.number fs;
  related_command_index = optional_u32 RELATED_COMMAND_INDEX.number fs;
  related_command_name = optional_text RELATED_COMMAND_NAME.number fs;
  related_command_type = optional_u32 RELATED_COMMAND_TYPE.number fs;
  next_retry_delay = optional_u64 NEXT_RETRY_DELAY.number fs;
  behavior = u32 BEHAVIOR.number fs;
}

abbrev pub error_parts : ErrorMessage → List Part
error_parts v =
    plain_number CODE.number v.code ∷
    plain_bytes MESSAGE.number v.message ∷
    optional_number RELATED_COMMAND_INDEX.number v.related_command_index ∷
    optional_bytes RELATED_COMMAND_NAME.number v.related_command_name ∷
    optional_number RELATED_COMMAND_TYPE.number v.related_command_type ∷
    optional_number NEXT_RETRY_DELAY.number v.next_retry_delay ∷
    plain_number BEHAVIOR.number (enum_number v.behavior) ∷ []

pub record ErrorFits (levels : ℕ) (v : ErrorMessage) : Type 0 where
  pub level : 0 < levels
  pub code : v.code < 2 ^ 32
  pub message : IsUtf8 v.message
  pub related_command_index : IfSome v.related_command_index (λ n. n < 2 ^ 32)
  pub related_command_name : IfSome v.related_command_name IsUtf8
  pub related_command_type : IfSome v.related_command_type (λ n. n < 2 ^ 32)
  pub next_retry_delay : IfSome v.next_retry_delay (λ n. n < 2 ^ 64)
  pub behavior : v.behavior < 2 ^ 32
