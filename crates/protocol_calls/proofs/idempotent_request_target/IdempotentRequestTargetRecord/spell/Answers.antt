use Rattle.std.proofs.Common.{refl}
use Rattle.protocol_wire.proofs.Puts.{chained}
use Rattle.protocol_calls.specs.Fields.{idempotent_request_target_parts}
use Rattle.protocol_calls.proofs.idempotent_request_target.IdempotentRequestTargetRecord.spell.Goals as goal

pub returns : goal.returns
returns c = chained (idempotent_request_target_parts c.args.self.now) c.args.out.now.items _ (_, c.in_ok-put_text.ensures, (_, c.in_ok-put_optional_text.ensures, (_, c.in_ok-put_text-2.ensures, (_, c.in_ok-put_text-3.ensures, (_, c.in_ok-put_optional_text-2.ensures, refl)))))
