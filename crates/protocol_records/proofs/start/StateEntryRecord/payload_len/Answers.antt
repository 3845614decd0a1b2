use Rattle.std.proofs.Common.{refl}
use Rattle.protocol_wire.proofs.Lengths.{measured}
use Rattle.protocol_records.specs.StateEntry.{state_entry_parts}
use Rattle.protocol_records.proofs.start.StateEntryRecord.payload_len.Goals as goal

pub returns : goal.returns
returns c = measured (state_entry_parts c.args.self.now) _ (_, c.len_bytes-len.ensures, (_, c.len_bytes.ensures, refl))
