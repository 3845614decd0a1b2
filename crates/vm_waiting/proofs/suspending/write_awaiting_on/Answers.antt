use Rattle.std.proofs.Common.{arith, false}
use Rattle.journal_model.specs.Spelling.{awaiting_on_payload}
use Rattle.protocol_types.specs.declared.message_type.MessageType.TheVariants.{AwaitingOn}
use Rattle.vm_waiting.proofs.WaitingFrames.{awaiting_on_is, writes}
use Rattle.vm_waiting.proofs.suspending.write_awaiting_on.Goals as goal

pub returns : goal.returns
returns c =
    λ tree is.
    writes AwaitingOn (awaiting_on_payload tree false) _ c.send-sent.result c.args.output.now c.send-sent.new.self (awaiting_on_is c.args.output.now.version c.args.told tree is) (omega arith)
    c.send-sent.ensures.ok c.send-sent.ensures.err c.send-sent.ensures.too_long
