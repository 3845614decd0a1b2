use Rattle.std.proofs.Common.{ap, ◌∙◌}
use Rattle.protocol_wire.specs.Parts.{payload_of}
use Rattle.protocol_records.specs.declared.start.StartMessage.{StartMessage}
use Rattle.protocol_records.specs.Start.{start_parts}
use Rattle.store_invocations.proofs.Starts.{start-is}
use Rattle.store_invocations.proofs.start.start_payload.Goals as goal

pub returns : goal.returns
returns c = c.in_ok-payload.ensures ∙ ap (λ (s : StartMessage). payload_of (start_parts s)) c.in_ok-start.ensures ∙ start-is c.args.row.now c.args.states.now c.args.now
