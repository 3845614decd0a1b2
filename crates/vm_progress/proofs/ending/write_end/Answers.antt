use Rattle.std.proofs.Common.{arith, refl, []}
use Rattle.protocol_types.specs.declared.message_type.MessageType.TheVariants.{End}
use Rattle.vm_waiting.proofs.WaitingFrames.{writes}
use Rattle.vm_progress.proofs.ending.write_end.Goals as goal

pub returns : goal.returns
returns c =
    writes End [] _ c.send-sent.result c.args.output.now c.send-sent.new.self refl (omega arith)
    c.send-sent.ensures.ok c.send-sent.ensures.err c.send-sent.ensures.too_long
