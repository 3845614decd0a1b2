use Rattle.std.proofs.Common.{ap, ◌∙◌}
use Rattle.protocol_wire.specs.Parts.{payload_of}
use Rattle.protocol_records.specs.declared.input_command.InputCommandMessage.{InputCommandMessage}
use Rattle.protocol_records.specs.InputCommand.{input_command_parts}
use Rattle.protocol_stream.proofs.RecordSpellings.{inputs_spelled}
use Rattle.store_invocations.proofs.input.spelled_input.Goals as goal

pub returns : goal.returns
returns c =
    c.in_ok-payload.ensures ∙ ap (λ (s : InputCommandMessage). payload_of (input_command_parts s)) c.in_ok-input.ensures
    ∙ inputs_spelled c.args.new.now.headers c.args.new.now.input
