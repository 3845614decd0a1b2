-- The fields of each command that stays within an invocation.
use Rattle.std.specs.Prelude.{IsUtf8, List, [], ℕ, ◌<◌, ◌^◌, ◌∷◌, IfSome, option_map, ◌-◌}
use Rattle.protocol_wire.specs.Wire.{Field}
use Rattle.protocol_wire.specs.Selection.{u32, text, optional_record}
use Rattle.protocol_wire.specs.Parts.{Part, plain_bytes, plain_number, optional_bytes, payload_of}
use Rattle.protocol_table.specs.declared.table.get_lazy_state_command.TheConstants as get_lazy_state_command
use Rattle.protocol_table.specs.declared.table.get_lazy_state_keys_command.TheConstants as get_lazy_state_keys_command
use Rattle.protocol_table.specs.declared.table.get_eager_state_keys_command.TheConstants as get_eager_state_keys_command
use Rattle.protocol_table.specs.declared.table.set_state_command.TheConstants as set_state_command
use Rattle.protocol_table.specs.declared.table.clear_state_command.TheConstants as clear_state_command
use Rattle.protocol_table.specs.declared.table.clear_all_state_command.TheConstants as clear_all_state_command
use Rattle.protocol_table.specs.declared.table.get_promise_command.TheConstants as get_promise_command
use Rattle.protocol_table.specs.declared.table.peek_promise_command.TheConstants as peek_promise_command
use Rattle.protocol_table.specs.declared.table.run_command.TheConstants as run_command
use Rattle.protocol_records.specs.StateKeys.{state_keys_of, state_keys_parts, StateKeysFits}
use Rattle.protocol_records.specs.Value.{value_of, value_parts, ValueFits}
use Rattle.protocol_commands.specs.declared.get_lazy_state_command.GetLazyStateCommandMessage.{GetLazyStateCommandMessage}
use Rattle.protocol_commands.specs.declared.get_lazy_state_keys_command.GetLazyStateKeysCommandMessage.{GetLazyStateKeysCommandMessage}
use Rattle.protocol_commands.specs.declared.get_eager_state_keys_command.GetEagerStateKeysCommandMessage.{GetEagerStateKeysCommandMessage}
use Rattle.protocol_commands.specs.declared.set_state_command.SetStateCommandMessage.{SetStateCommandMessage}
use Rattle.protocol_commands.specs.declared.clear_state_command.ClearStateCommandMessage.{ClearStateCommandMessage}
use Rattle.protocol_commands.specs.declared.clear_all_state_command.ClearAllStateCommandMessage.{ClearAllStateCommandMessage}
use Rattle.protocol_commands.specs.declared.get_promise_command.GetPromiseCommandMessage.{GetPromiseCommandMessage}
use Rattle.protocol_commands.specs.declared.peek_promise_command.PeekPromiseCommandMessage.{PeekPromiseCommandMessage}
use Rattle.protocol_commands.specs.declared.run_command.RunCommandMessage.{RunCommandMessage}

abbrev pub get_lazy_state_command_of : ℕ → List Field → GetLazyStateCommandMessage
get_lazy_state_command_of levels fs = record {
  key = text get_lazy_state_command.KEY.number fs;
  result_completion_id = u32 get_lazy_state_command.RESULT_COMPLETION_ID.number fs;
  name = text get_lazy_state_command.NAME.number fs;
}

abbrev pub get_lazy_state_command_parts : GetLazyStateCommandMessage → List Part
get_lazy_state_command_parts v =
    plain_bytes get_lazy_state_command.KEY.number v.key ∷
    plain_number get_lazy_state_command.RESULT_COMPLETION_ID.number v.result_completion_id ∷
    plain_bytes get_lazy_state_command.NAME.number v.name ∷ []

pub record GetLazyStateCommandFits (levels : ℕ) (v : GetLazyStateCommandMessage) : Type 0 where
  pub level : 0 < levels
  pub result_completion_id : v.result_completion_id < 2 ^ 32
  pub name : IsUtf8 v.name

abbrev pub get_lazy_state_keys_command_of : ℕ → List Field → GetLazyStateKeysCommandMessage
get_lazy_state_keys_command_of levels fs = record {
  result_completion_id = u32 get_lazy_state_keys_command.RESULT_COMPLETION_ID.number fs;
  name = text get_lazy_state_keys_command.NAME.number fs;
}

abbrev pub get_lazy_state_keys_command_parts : GetLazyStateKeysCommandMessage → List Part
get_lazy_state_keys_command_parts v =
    plain_number get_lazy_state_keys_command.RESULT_COMPLETION_ID.number v.result_completion_id ∷
    plain_bytes get_lazy_state_keys_command.NAME.number v.name ∷ []

pub record GetLazyStateKeysCommandFits (levels : ℕ) (v : GetLazyStateKeysCommandMessage) : Type 0 where
  pub level : 0 < levels
  pub result_completion_id : v.result_completion_id < 2 ^ 32
  pub name : IsUtf8 v.name

abbrev pub get_eager_state_keys_command_of : ℕ → List Field → GetEagerStateKeysCommandMessage
get_eager_state_keys_command_of levels fs = record {
  name = text get_eager_state_keys_command.NAME.number fs;
  value = optional_record (state_keys_of (levels - 1)) get_eager_state_keys_command.VALUE.number fs;
}

abbrev pub get_eager_state_keys_command_parts : GetEagerStateKeysCommandMessage → List Part
get_eager_state_keys_command_parts v =
    plain_bytes get_eager_state_keys_command.NAME.number v.name ∷
    optional_bytes get_eager_state_keys_command.VALUE.number (option_map (λ r. payload_of (state_keys_parts r)) v.value) ∷ []

pub record GetEagerStateKeysCommandFits (levels : ℕ) (v : GetEagerStateKeysCommandMessage) : Type 0 where
  pub level : 0 < levels
  pub name : IsUtf8 v.name
  pub value : IfSome v.value (StateKeysFits (levels - 1))

abbrev pub set_state_command_of : ℕ → List Field → SetStateCommandMessage
set_state_command_of levels fs = record {
  key = text set_state_command.KEY.number fs;
  value = optional_record (value_of (levels - 1)) set_state_command.VALUE.number fs;
  name = text set_state_command.NAME.number fs;
}

abbrev pub set_state_command_parts : SetStateCommandMessage → List Part
set_state_command_parts v =
    plain_bytes set_state_command.KEY.number v.key ∷
    optional_bytes set_state_command.VALUE.number (option_map (λ r. payload_of (value_parts r)) v.value) ∷
    plain_bytes set_state_command.NAME.number v.name ∷ []

pub record SetStateCommandFits (levels : ℕ) (v : SetStateCommandMessage) : Type 0 where
  pub level : 0 < levels
  pub value : IfSome v.value (ValueFits (levels - 1))
  pub name : IsUtf8 v.name

abbrev pub clear_state_command_of : ℕ → List Field → ClearStateCommandMessage
clear_state_command_of levels fs = record {
  key = text clear_state_command.KEY.number fs;
  name = text clear_state_command.NAME.number fs;
}

abbrev pub clear_state_command_parts : ClearStateCommandMessage → List Part
clear_state_command_parts v =
    plain_bytes clear_state_command.KEY.number v.key ∷
    plain_bytes clear_state_command.NAME.number v.name ∷ []

pub record ClearStateCommandFits (levels : ℕ) (v : ClearStateCommandMessage) : Type 0 where
  pub level : 0 < levels
  pub name : IsUtf8 v.name

abbrev pub clear_all_state_command_of : ℕ → List Field → ClearAllStateCommandMessage
clear_all_state_command_of levels fs = record {
  name = text clear_all_state_command.NAME.number fs;
}

abbrev pub clear_all_state_command_parts : ClearAllStateCommandMessage → List Part
clear_all_state_command_parts v =
    plain_bytes clear_all_state_command.NAME.number v.name ∷ []

pub record ClearAllStateCommandFits (levels : ℕ) (v : ClearAllStateCommandMessage) : Type 0 where
  pub level : 0 < levels
  pub name : IsUtf8 v.name

abbrev pub get_promise_command_of : ℕ → List Field → GetPromiseCommandMessage
get_promise_command_of levels fs = record {
  key = text get_promise_command.KEY.number fs;
  result_completion_id = u32 get_promise_command.RESULT_COMPLETION_ID.number fs;
  name = text get_promise_command.NAME.number fs;
}

abbrev pub get_promise_command_parts : GetPromiseCommandMessage → List Part
get_promise_command_parts v =
    plain_bytes get_promise_command.KEY.number v.key ∷
    plain_number get_promise_command.RESULT_COMPLETION_ID.number v.result_completion_id ∷
    plain_bytes get_promise_command.NAME.number v.name ∷ []

pub record GetPromiseCommandFits (levels : ℕ) (v : GetPromiseCommandMessage) : Type 0 where
  pub level : 0 < levels
  pub key : IsUtf8 v.key
  pub result_completion_id : v.result_completion_id < 2 ^ 32
  pub name : IsUtf8 v.name

abbrev pub peek_promise_command_of : ℕ → List Field → PeekPromiseCommandMessage
peek_promise_command_of levels fs = record {
  key = text peek_promise_command.KEY.number fs;
  result_completion_id = u32 peek_promise_command.RESULT_COMPLETION_ID.number fs;
  name = text peek_promise_command.NAME.number fs;
}

abbrev pub peek_promise_command_parts : PeekPromiseCommandMessage → List Part
peek_promise_command_parts v =
    plain_bytes peek_promise_command.KEY.number v.key ∷
    plain_number peek_promise_command.RESULT_COMPLETION_ID.number v.result_completion_id ∷
    plain_bytes peek_promise_command.NAME.number v.name ∷ []

pub record PeekPromiseCommandFits (levels : ℕ) (v : PeekPromiseCommandMessage) : Type 0 where
  pub level : 0 < levels
  pub key : IsUtf8 v.key
  pub result_completion_id : v.result_completion_id < 2 ^ 32
  pub name : IsUtf8 v.name

abbrev pub run_command_of : ℕ → List Field → RunCommandMessage
run_command_of levels fs = record {
  result_completion_id = u32 run_command.RESULT_COMPLETION_ID.number fs;
  name = text run_command.NAME.number fs;
}

abbrev pub run_command_parts : RunCommandMessage → List Part
run_command_parts v =
    plain_number run_command.RESULT_COMPLETION_ID.number v.result_completion_id ∷
    plain_bytes run_command.NAME.number v.name ∷ []

pub record RunCommandFits (levels : ℕ) (v : RunCommandMessage) : Type 0 where
  pub level : 0 < levels
  pub result_completion_id : v.result_completion_id < 2 ^ 32
  pub name : IsUtf8 v.name
