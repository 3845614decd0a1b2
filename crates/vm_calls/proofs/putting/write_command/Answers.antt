use Rattle.protocol_messages.specs.Encodings.{plain_message}
use Rattle.vm_calls.proofs.Framing.{command_message, writes_request}
use Rattle.vm_calls.proofs.putting.write_command.Goals as goal

pub returns-clause-ok : goal.returns-clause-ok
returns-clause-ok g c =
    let command = c.args.command.now in
    let means = g.met.M.Command.means in
    let version = c.args.output.now.version in
    let parts = g.M.Record.parts command in
    λ request h. writes_request c.send_command.result c.args.output.now c.send_command.new.self (plain_message g.M.Record.record_type version parts) request
    (command_message g.M.Record.record_type version parts request (means.typed command request h) (means.spelled command request h))
    c.send_command.ensures.ok c.send_command.ensures.too_long
