-- The fields of a propose run completion.
use Rattle.std.specs.Prelude.{List, ℕ, ◌-◌, ◌<◌, ◌^◌, ◌∷◌}
use Rattle.protocol_wire.specs.Wire.{Field}
use Rattle.protocol_wire.specs.Selection.{u32, run}
use Rattle.protocol_wire.specs.Parts.{Part, plain_number}
use Rattle.protocol_table.specs.declared.table.propose_run_completion.TheConstants.{RESULT_COMPLETION_ID}
use Rattle.protocol_records.specs.Choice.{ChoiceFits, choice_parts, chosen}
use Rattle.protocol_controls.specs.declared.propose_run_completion.ProposeRunCompletionMessage.{ProposeRunCompletionMessage}
use Rattle.protocol_controls.specs.Choices.{proposal_choice}

abbrev pub propose_run_completion_of : ℕ → List Field → ProposeRunCompletionMessage
propose_run_completion_of levels fs = record {
  result_completion_id = u32 RESULT_COMPLETION_ID.number fs;
  result = chosen proposal_choice levels fs;
}

abbrev pub propose_run_completion_parts : ProposeRunCompletionMessage → List Part
propose_run_completion_parts v =
    plain_number RESULT_COMPLETION_ID.number v.result_completion_id ∷
    choice_parts proposal_choice v.result

pub record ProposeRunCompletionFits (levels : ℕ) (v : ProposeRunCompletionMessage) : Type 0 where
  pub level : 0 < levels
  pub result_completion_id : v.result_completion_id < 2 ^ 32
  pub result : ChoiceFits proposal_choice (levels - 1) v.result
