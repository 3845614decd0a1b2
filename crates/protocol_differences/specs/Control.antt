-- The first and the last command, and the sleep. How two of them differ, as text.
use Rattle.std.specs.Prelude.{ℕ, false, List, [], codes}
use Rattle.protocol_equality.specs.Payloads.{same_output_result}
use Rattle.protocol_records.specs.Texts.{output_result_text}
use Rattle.protocol_differences.specs.Lines.{Compared, ◌before◌, optional_line, id_line, name_line}
use Rattle.protocol_records.specs.declared.input_command.InputCommandMessage.{InputCommandMessage}
use Rattle.protocol_records.specs.declared.output_command.OutputCommandMessage.{OutputCommandMessage}
use Rattle.protocol_records.specs.declared.sleep_command.SleepCommandMessage.{SleepCommandMessage}

abbrev pub input_command_difference : InputCommandMessage → InputCommandMessage → List ℕ
input_command_difference x y = []

abbrev pub output_command_lines : OutputCommandMessage → OutputCommandMessage → Compared
output_command_lines x y = name_line x.name y.name before optional_line (same_output_result false) output_result_text (codes "result") x.result y.result

abbrev pub output_command_difference : OutputCommandMessage → OutputCommandMessage → List ℕ
output_command_difference x y = (output_command_lines x y).text

abbrev pub sleep_command_lines : SleepCommandMessage → SleepCommandMessage → Compared
sleep_command_lines x y = id_line x.result_completion_id y.result_completion_id before name_line x.name y.name

abbrev pub sleep_command_difference : SleepCommandMessage → SleepCommandMessage → List ℕ
sleep_command_difference x y = (sleep_command_lines x y).text
