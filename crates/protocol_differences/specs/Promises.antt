-- Commands on promises, and the effect. How two of them differ, as text.
use Rattle.std.specs.Prelude.{ℕ, false, List, codes}
use Rattle.protocol_commands.specs.Texts.{completion_text}
use Rattle.protocol_commands.specs.declared.get_promise_command.GetPromiseCommandMessage.{GetPromiseCommandMessage}
use Rattle.protocol_commands.specs.declared.peek_promise_command.PeekPromiseCommandMessage.{PeekPromiseCommandMessage}
use Rattle.protocol_commands.specs.declared.complete_promise_command.CompletePromiseCommandMessage.{CompletePromiseCommandMessage}
use Rattle.protocol_commands.specs.declared.run_command.RunCommandMessage.{RunCommandMessage}
use Rattle.protocol_equality.specs.Payloads.{same_completion}
use Rattle.protocol_differences.specs.Lines.{Compared, ◌before◌, text_line, optional_line, id_line, name_line}

abbrev pub get_promise_command_lines : GetPromiseCommandMessage → GetPromiseCommandMessage → Compared
get_promise_command_lines x y = text_line (codes "key") x.key y.key before id_line x.result_completion_id y.result_completion_id before name_line x.name y.name

abbrev pub get_promise_command_difference : GetPromiseCommandMessage → GetPromiseCommandMessage → List ℕ
get_promise_command_difference x y = (get_promise_command_lines x y).text

abbrev pub peek_promise_command_lines : PeekPromiseCommandMessage → PeekPromiseCommandMessage → Compared
peek_promise_command_lines x y = text_line (codes "key") x.key y.key before id_line x.result_completion_id y.result_completion_id before name_line x.name y.name

abbrev pub peek_promise_command_difference : PeekPromiseCommandMessage → PeekPromiseCommandMessage → List ℕ
peek_promise_command_difference x y = (peek_promise_command_lines x y).text

abbrev pub complete_promise_command_lines : CompletePromiseCommandMessage → CompletePromiseCommandMessage → Compared
complete_promise_command_lines x y =
    text_line (codes "key") x.key y.key
    before optional_line (same_completion false) completion_text (codes "completion") x.completion y.completion
    before id_line x.result_completion_id y.result_completion_id
    before name_line x.name y.name

abbrev pub complete_promise_command_difference : CompletePromiseCommandMessage → CompletePromiseCommandMessage → List ℕ
complete_promise_command_difference x y = (complete_promise_command_lines x y).text

abbrev pub run_command_lines : RunCommandMessage → RunCommandMessage → Compared
run_command_lines x y = id_line x.result_completion_id y.result_completion_id before name_line x.name y.name

abbrev pub run_command_difference : RunCommandMessage → RunCommandMessage → List ℕ
run_command_difference x y = (run_command_lines x y).text
