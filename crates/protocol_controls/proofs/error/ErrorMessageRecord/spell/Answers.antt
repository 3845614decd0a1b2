use Rattle.std.proofs.Common.{refl}
use Rattle.protocol_wire.proofs.Puts.{chained}
use Rattle.protocol_controls.specs.Error.{error_parts}
use Rattle.protocol_controls.proofs.error.ErrorMessageRecord.spell.Goals as goal

pub returns : goal.returns
returns c = chained (error_parts c.args.self.now) c.args.out.now.items _ (_, c.in_ok-put_u32.ensures, (_, c.in_ok-put_text.ensures, (_, c.in_ok-put_optional_u32.ensures, (_, c.in_ok-put_optional_text.ensures, (_, c.in_ok-put_optional_u32-2.ensures, (_, c.in_ok-put_optional_u64.ensures, (_, c.in_ok-put_enum.ensures, refl)))))))
