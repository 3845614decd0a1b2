-- Proved in `Meanings`.
use Rattle.protocol_types.specs.Version.{version_number}
use Rattle.store_frames.proofs.Meanings.{meant}
use Rattle.store_frames.proofs.read.read_frame_at.Goals as goal
use Rattle.std.specs.Prelude.{refl}

pub returns : goal.returns
returns c =
    meant (version_number c.args.version) (record { header = c.args.header; payload = c.args.payload.now }) c.message_type.result c.asks_ack.result c.args.payload.now c.read_payload.result
    c.message_type.ensures c.asks_ack.ensures refl c.read_payload.ensures
