-- Commands on the object's state. How two of them differ, as text.
use Rattle.std.specs.Prelude.{ℕ, false, List, codes}
use Rattle.protocol_commands.specs.Texts.{state_result_text}
use Rattle.protocol_commands.specs.declared.get_lazy_state_command.GetLazyStateCommandMessage.{GetLazyStateCommandMessage}
use Rattle.protocol_commands.specs.declared.get_lazy_state_keys_command.GetLazyStateKeysCommandMessage.{GetLazyStateKeysCommandMessage}
use Rattle.protocol_commands.specs.declared.get_eager_state_command.GetEagerStateCommandMessage.{GetEagerStateCommandMessage}
use Rattle.protocol_commands.specs.declared.get_eager_state_keys_command.GetEagerStateKeysCommandMessage.{GetEagerStateKeysCommandMessage}
use Rattle.protocol_commands.specs.declared.set_state_command.SetStateCommandMessage.{SetStateCommandMessage}
use Rattle.protocol_commands.specs.declared.clear_state_command.ClearStateCommandMessage.{ClearStateCommandMessage}
use Rattle.protocol_commands.specs.declared.clear_all_state_command.ClearAllStateCommandMessage.{ClearAllStateCommandMessage}
use Rattle.protocol_equality.specs.Records.{same_state_keys}
use Rattle.protocol_equality.specs.Payloads.{same_content, same_state_result}
use Rattle.protocol_records.specs.Texts.{state_keys_text, value_text}
use Rattle.protocol_differences.specs.Lines.{Compared, ◌before◌, bytes_line, optional_line, id_line, name_line}

abbrev pub get_lazy_state_command_lines : GetLazyStateCommandMessage → GetLazyStateCommandMessage → Compared
get_lazy_state_command_lines x y = bytes_line (codes "key") x.key y.key before id_line x.result_completion_id y.result_completion_id before name_line x.name y.name

abbrev pub get_lazy_state_command_difference : GetLazyStateCommandMessage → GetLazyStateCommandMessage → List ℕ
get_lazy_state_command_difference x y = (get_lazy_state_command_lines x y).text

abbrev pub get_lazy_state_keys_command_lines : GetLazyStateKeysCommandMessage → GetLazyStateKeysCommandMessage → Compared
get_lazy_state_keys_command_lines x y = id_line x.result_completion_id y.result_completion_id before name_line x.name y.name

abbrev pub get_lazy_state_keys_command_difference : GetLazyStateKeysCommandMessage → GetLazyStateKeysCommandMessage → List ℕ
get_lazy_state_keys_command_difference x y = (get_lazy_state_keys_command_lines x y).text

abbrev pub get_eager_state_command_lines : GetEagerStateCommandMessage → GetEagerStateCommandMessage → Compared
get_eager_state_command_lines x y = bytes_line (codes "key") x.key y.key before name_line x.name y.name before optional_line (same_state_result false) state_result_text (codes "result") x.result y.result

abbrev pub get_eager_state_command_difference : GetEagerStateCommandMessage → GetEagerStateCommandMessage → List ℕ
get_eager_state_command_difference x y = (get_eager_state_command_lines x y).text

abbrev pub get_eager_state_keys_command_lines : GetEagerStateKeysCommandMessage → GetEagerStateKeysCommandMessage → Compared
get_eager_state_keys_command_lines x y = name_line x.name y.name before optional_line same_state_keys state_keys_text (codes "value") x.value y.value

abbrev pub get_eager_state_keys_command_difference : GetEagerStateKeysCommandMessage → GetEagerStateKeysCommandMessage → List ℕ
get_eager_state_keys_command_difference x y = (get_eager_state_keys_command_lines x y).text

abbrev pub set_state_command_lines : SetStateCommandMessage → SetStateCommandMessage → Compared
set_state_command_lines x y = bytes_line (codes "key") x.key y.key before optional_line (same_content false) value_text (codes "value") x.value y.value before name_line x.name y.name

abbrev pub set_state_command_difference : SetStateCommandMessage → SetStateCommandMessage → List ℕ
set_state_command_difference x y = (set_state_command_lines x y).text

abbrev pub clear_state_command_lines : ClearStateCommandMessage → ClearStateCommandMessage → Compared
clear_state_command_lines x y = bytes_line (codes "key") x.key y.key before name_line x.name y.name

abbrev pub clear_state_command_difference : ClearStateCommandMessage → ClearStateCommandMessage → List ℕ
clear_state_command_difference x y = (clear_state_command_lines x y).text

abbrev pub clear_all_state_command_lines : ClearAllStateCommandMessage → ClearAllStateCommandMessage → Compared
clear_all_state_command_lines x y = name_line x.name y.name

abbrev pub clear_all_state_command_difference : ClearAllStateCommandMessage → ClearAllStateCommandMessage → List ℕ
clear_all_state_command_difference x y = (clear_all_state_command_lines x y).text
