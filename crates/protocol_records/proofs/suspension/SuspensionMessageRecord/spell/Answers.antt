use Rattle.std.proofs.Common.{refl}
use Rattle.protocol_wire.proofs.Puts.{chained}
use Rattle.protocol_records.specs.Suspension.{suspension_parts}
use Rattle.protocol_records.proofs.suspension.SuspensionMessageRecord.spell.Goals as goal

pub returns : goal.returns
returns c = chained (suspension_parts c.args.self.now) c.args.out.now.items _ (_, c.in_ok-put_optional_record.ensures, refl)
