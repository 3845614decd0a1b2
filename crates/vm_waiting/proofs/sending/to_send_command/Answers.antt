use Rattle.std.proofs.Common.{ap, ◌∙◌, List, map}
use Rattle.journal_model.specs.Request.{Request}
use Rattle.journal_model.specs.Run.{call_record}
use Rattle.protocol_records.specs.declared.header.Header.{Header}
use Rattle.protocol_stream.specs.Records.{header_told}
use Rattle.vm_waiting.proofs.Calls.{headers_told}
use Rattle.vm_waiting.proofs.sending.to_send_command.Goals as goal

pub returns-in-Ok : goal.returns-in-Ok
returns-in-Ok c =
    let told = ap (λ (records : List Header). map header_told records) c.in-Ok.ensures ∙ headers_told c.args.target.headers in
    λ i. Request.OneWayCall (record (call_record c.args.target c.args.parameter) { headers = told i; key = c.or_empty.ensures i }) c.args.invoke_time c.args.invocation_id_notification_idx c.args.name
