-- Commands about invocations and awakeables that are there already. How two of them differ, as text.
use Rattle.std.specs.Prelude.{ℕ, false, List, codes}
use Rattle.protocol_equality.specs.Choices.{same_signal_id, same_signal_result, same_invocation_target}
use Rattle.protocol_calls.specs.Texts.{awakeable_result_text, signal_id_text, signal_result_text, invocation_target_text}
use Rattle.protocol_calls.specs.declared.send_signal_command.SendSignalCommandMessage.{SendSignalCommandMessage}
use Rattle.protocol_calls.specs.declared.attach_invocation_command.AttachInvocationCommandMessage.{AttachInvocationCommandMessage}
use Rattle.protocol_calls.specs.declared.get_invocation_output_command.GetInvocationOutputCommandMessage.{GetInvocationOutputCommandMessage}
use Rattle.protocol_calls.specs.declared.complete_awakeable_command.CompleteAwakeableCommandMessage.{CompleteAwakeableCommandMessage}
use Rattle.protocol_equality.specs.Payloads.{same_awakeable_result}
use Rattle.protocol_differences.specs.Lines.{Compared, ◌before◌, text_line, optional_line, id_line, name_line}

abbrev pub send_signal_command_lines : SendSignalCommandMessage → SendSignalCommandMessage → Compared
send_signal_command_lines x y =
    text_line (codes "target_invocation_id") x.target_invocation_id y.target_invocation_id
    before optional_line same_signal_id signal_id_text (codes "signal_id") x.signal_id y.signal_id
    before optional_line same_signal_result signal_result_text (codes "result") x.result y.result
    before text_line (codes "entry_name") x.entry_name y.entry_name

abbrev pub send_signal_command_difference : SendSignalCommandMessage → SendSignalCommandMessage → List ℕ
send_signal_command_difference x y = (send_signal_command_lines x y).text

abbrev pub attach_invocation_command_lines : AttachInvocationCommandMessage → AttachInvocationCommandMessage → Compared
attach_invocation_command_lines x y = optional_line same_invocation_target invocation_target_text (codes "target") x.target y.target before id_line x.result_completion_id y.result_completion_id before name_line x.name y.name

abbrev pub attach_invocation_command_difference : AttachInvocationCommandMessage → AttachInvocationCommandMessage → List ℕ
attach_invocation_command_difference x y = (attach_invocation_command_lines x y).text

abbrev pub get_invocation_output_command_lines : GetInvocationOutputCommandMessage → GetInvocationOutputCommandMessage → Compared
get_invocation_output_command_lines x y = optional_line same_invocation_target invocation_target_text (codes "target") x.target y.target before id_line x.result_completion_id y.result_completion_id before name_line x.name y.name

abbrev pub get_invocation_output_command_difference : GetInvocationOutputCommandMessage → GetInvocationOutputCommandMessage → List ℕ
get_invocation_output_command_difference x y = (get_invocation_output_command_lines x y).text

abbrev pub complete_awakeable_command_lines : CompleteAwakeableCommandMessage → CompleteAwakeableCommandMessage → Compared
complete_awakeable_command_lines x y = text_line (codes "awakeable_id") x.awakeable_id y.awakeable_id before optional_line (same_awakeable_result false) awakeable_result_text (codes "result") x.result y.result before name_line x.name y.name

abbrev pub complete_awakeable_command_difference : CompleteAwakeableCommandMessage → CompleteAwakeableCommandMessage → List ℕ
complete_awakeable_command_difference x y = (complete_awakeable_command_lines x y).text
