-- The fields of an attach invocation command.
use Rattle.std.specs.Prelude.{IsUtf8, List, [], ℕ, ◌-◌, ◌<◌, ◌^◌, ◌∷◌, ◌++◌}
use Rattle.protocol_wire.specs.Wire.{Field}
use Rattle.protocol_wire.specs.Selection.{u32, text}
use Rattle.protocol_wire.specs.Parts.{Part, plain_bytes, plain_number}
use Rattle.protocol_table.specs.declared.table.attach_invocation_command.TheConstants.{NAME, RESULT_COMPLETION_ID}
use Rattle.protocol_calls.specs.InvocationTarget.{target_of, target_parts, InvocationTargetFits}
use Rattle.protocol_calls.specs.declared.attach_invocation_command.AttachInvocationCommandMessage.{AttachInvocationCommandMessage}

abbrev pub attach_invocation_command_of : ℕ → List Field → AttachInvocationCommandMessage
attach_invocation_command_of levels fs = record {
  target = target_of levels fs;
  result_completion_id = u32 RESULT_COMPLETION_ID.number fs;
  name = text NAME.number fs;
}

abbrev pub attach_invocation_command_parts : AttachInvocationCommandMessage → List Part
attach_invocation_command_parts v =
    (target_parts v.target ++ (
    plain_number RESULT_COMPLETION_ID.number v.result_completion_id ∷
    plain_bytes NAME.number v.name ∷ []))

pub record AttachInvocationCommandFits (levels : ℕ) (v : AttachInvocationCommandMessage) : Type 0 where
  pub level : 0 < levels
  pub target : InvocationTargetFits (levels - 1) v.target
  pub result_completion_id : v.result_completion_id < 2 ^ 32
  pub name : IsUtf8 v.name
