-- The fields of a propose run completion ack.
use Rattle.std.specs.Prelude.{List, [], ℕ, ◌<◌, ◌^◌, ◌∷◌}
use Rattle.protocol_wire.specs.Wire.{Field}
use Rattle.protocol_wire.specs.Selection.{u32}
use Rattle.protocol_wire.specs.Parts.{Part, plain_number}
use Rattle.protocol_table.specs.declared.table.propose_run_completion_ack.TheConstants.{COMPLETION_ID}
use Rattle.protocol_controls.specs.declared.propose_run_completion_ack.ProposeRunCompletionAckMessage.{ProposeRunCompletionAckMessage}

abbrev pub propose_run_completion_ack_of : ℕ → List Field → ProposeRunCompletionAckMessage
propose_run_completion_ack_of levels fs = record {
  completion_id = u32 COMPLETION_ID.number fs;
}

abbrev pub propose_run_completion_ack_parts : ProposeRunCompletionAckMessage → List Part
propose_run_completion_ack_parts v =
    plain_number COMPLETION_ID.number v.completion_id ∷ []

pub record ProposeRunCompletionAckFits (levels : ℕ) (v : ProposeRunCompletionAckMessage) : Type 0 where
  pub level : 0 < levels
  pub completion_id : v.completion_id < 2 ^ 32
