-- Proved of frames in `Frames`, and of payloads by each record's own law.
use Rattle.std.proofs.Common.{arith}
use Rattle.protocol_wire.specs.Parts.{payload_of}
use Rattle.protocol_wire.specs.declared.record.TheConstants.{LEVELS}
use Rattle.protocol_stream.proofs.Fronts.{item_at-spelled}
use Rattle.protocol_messages.specs.Encodings.{record_message}
use Rattle.protocol_messages.proofs.Frames.{wire_type, is_frame}
use Rattle.protocol_messages.proofs.laws.messages_read_back.Goals as goal

pub returns : goal.returns
returns g c = λ one ty version index rest fits e small.
    let frame = is_frame ty version (payload_of (g.M.Record.parts one)) (wire_type g.M.Record.record_type ty e) small in (
      frame,
      item_at-spelled (record_message ty version (g.M.Record.parts one)) rest frame,
      (e, g.met.M.Record.reads LEVELS one fits (omega (arith, small))),
    )
