use Rattle.std.proofs.Common.{arith}
use Rattle.protocol_types.specs.declared.message_type.MessageType.TheVariants.{Suspension}
use Rattle.vm_waiting.specs.SuspensionFrames.{suspension_payload_in}
use Rattle.vm_waiting.proofs.WaitingFrames.{suspension_is, writes}
use Rattle.vm_waiting.proofs.suspending.write_suspension.Goals as goal

pub returns : goal.returns
returns c =
    let version = c.args.output.now.version in
    λ tree is.
    writes Suspension (suspension_payload_in version tree) _ c.send-sent.result c.args.output.now c.send-sent.new.self (suspension_is version c.args.awaiting_on tree is) (omega arith)
    c.send-sent.ensures.ok c.send-sent.ensures.err c.send-sent.ensures.too_long
