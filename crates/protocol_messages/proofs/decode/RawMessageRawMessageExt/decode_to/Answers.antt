use Rattle.std.proofs.Common.{sym, ◌∙◌}
use Rattle.protocol_messages.proofs.Reading.{decodes_own}
use Rattle.protocol_messages.proofs.decode.RawMessageRawMessageExt.decode_to.Goals as goal

pub returns : goal.returns
returns g c =
    decodes_own g.M.Record.record_type g.M.Record.of c.args.command_index c.args.self.now _ c.read_payload.result c.ty.ensures (sym c.ty-2.ensures ∙ c.in_ok-expect_type.ensures) c.read_payload.ensures
