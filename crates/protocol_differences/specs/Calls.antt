-- Commands that call other invocations. How two of them differ, as text.
use Rattle.std.specs.Prelude.{ℕ, false, List, nat_eq, decimal, codes}
use Rattle.std.specs.Cmp.Lexicographic.{pointwise}
use Rattle.protocol_equality.specs.Parts.{same_text}
use Rattle.protocol_equality.specs.Records.{same_header}
use Rattle.protocol_equality.specs.Payloads.{same_payload}
use Rattle.protocol_equality.specs.Calls.{Called, called_by, called_one_way}
use Rattle.protocol_calls.specs.declared.call_command.CallCommandMessage.{CallCommandMessage}
use Rattle.protocol_calls.specs.declared.one_way_call_command.OneWayCallCommandMessage.{OneWayCallCommandMessage}
use Rattle.protocol_types.specs.Texts.{quoted, escaped, list_text}
use Rattle.protocol_records.specs.Texts.{header_text}
use Rattle.protocol_differences.specs.Lines.{Compared, ◌before◌, field_line, text_line, optional_line, id_line, name_line}

-- what calls of both kinds have
abbrev pub called_lines : Called → Called → Compared
called_lines x y =
    text_line (codes "service_name") x.service_name y.service_name
    before text_line (codes "handler_name") x.handler_name y.handler_name
    before field_line (same_payload false) escaped (codes "parameter") x.parameter y.parameter
    before field_line (pointwise same_header) (list_text header_text) (codes "headers") x.headers y.headers
    before text_line (codes "key") x.key y.key
    before optional_line same_text quoted (codes "idempotency_key") x.idempotency_key y.idempotency_key
    before optional_line same_text quoted (codes "scope") x.scope y.scope
    before optional_line same_text quoted (codes "limit_key") x.limit_key y.limit_key
    before field_line nat_eq decimal (codes "invocation_id_notification_idx") x.invocation_id_notification_idx y.invocation_id_notification_idx

abbrev pub call_command_lines : CallCommandMessage → CallCommandMessage → Compared
call_command_lines x y = called_lines (called_by x) (called_by y) before id_line x.result_completion_id y.result_completion_id before name_line x.name y.name

abbrev pub call_command_difference : CallCommandMessage → CallCommandMessage → List ℕ
call_command_difference x y = (call_command_lines x y).text

abbrev pub one_way_call_command_lines : OneWayCallCommandMessage → OneWayCallCommandMessage → Compared
one_way_call_command_lines x y = called_lines (called_one_way x) (called_one_way y) before name_line x.name y.name

abbrev pub one_way_call_command_difference : OneWayCallCommandMessage → OneWayCallCommandMessage → List ℕ
one_way_call_command_difference x y = (one_way_call_command_lines x y).text
