-- Proved in `Meanings`.
use Rattle.std.proofs.Common.{ap, ◌∙◌}
use Rattle.protocol_types.specs.Version.{version_number}
use Rattle.store_frames.specs.FrameMeanings.{asks_ack}
use Rattle.store_frames.proofs.Meanings.{meant}
use Rattle.store_frames.proofs.read.read_frame.Goals as goal

pub returns : goal.returns
returns c =
    meant (version_number c.args.version) c.args.message.now c.ty.result c.asks_ack.result c.as_slice.result.now c.read_payload.result
    c.ty.ensures (c.asks_ack.ensures ∙ ap asks_ack c.header.ensures) c.as_slice.ensures c.read_payload.ensures
