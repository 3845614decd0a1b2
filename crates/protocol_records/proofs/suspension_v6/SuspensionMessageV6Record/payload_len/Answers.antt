use Rattle.std.proofs.Common.{refl}
use Rattle.protocol_wire.proofs.Lengths.{measured}
use Rattle.protocol_records.specs.SuspensionV6.{suspension_v6_parts}
use Rattle.protocol_records.proofs.suspension_v6.SuspensionMessageV6Record.payload_len.Goals as goal

pub returns : goal.returns
returns c = measured (suspension_v6_parts c.args.self.now) _ (_, c.len_numbers-len.ensures, (_, c.len_numbers-len-2.ensures, (_, c.len_texts.ensures, refl)))
