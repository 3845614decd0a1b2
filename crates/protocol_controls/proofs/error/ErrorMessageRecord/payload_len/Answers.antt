use Rattle.std.proofs.Common.{refl}
use Rattle.protocol_wire.proofs.Lengths.{measured}
use Rattle.protocol_controls.specs.Error.{error_parts}
use Rattle.protocol_controls.proofs.error.ErrorMessageRecord.payload_len.Goals as goal

pub returns : goal.returns
returns c = measured (error_parts c.args.self.now) _ (_, c.len_u32-len.ensures, (_, c.len_text-len.ensures, (_, c.len_optional_u32-len.ensures, (_, c.len_optional_text-len.ensures, (_, c.len_optional_u32-len-2.ensures, (_, c.len_optional_u64-len.ensures, (_, c.len_enum.ensures, refl)))))))
