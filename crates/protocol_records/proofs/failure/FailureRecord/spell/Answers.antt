use Rattle.std.proofs.Common.{refl}
use Rattle.protocol_wire.proofs.Puts.{chained}
use Rattle.protocol_records.specs.Failure.{failure_parts}
use Rattle.protocol_records.proofs.failure.FailureRecord.spell.Goals as goal

pub returns : goal.returns
returns c = chained (failure_parts c.args.self.now) c.args.out.now.items _ (_, c.in_ok-put_u32.ensures, (_, c.in_ok-put_text.ensures, (_, c.in_ok-put_records.ensures, refl)))
