use Rattle.std.proofs.Common.{refl}
use Rattle.protocol_wire.proofs.Lengths.{measured}
use Rattle.protocol_records.specs.Header.{header_parts}
use Rattle.protocol_records.proofs.header.HeaderRecord.payload_len.Goals as goal

pub returns : goal.returns
returns c = measured (header_parts c.args.self.now) _ (_, c.len_text-len.ensures, (_, c.len_text.ensures, refl))
