use Rattle.std.proofs.Common.{sym, ap, ◌∙◌}
use Rattle.store_deliveries.specs.Awakeables.{if_decoded, named_in, named_told}
use Rattle.store_deliveries.proofs.Options.{ok_then}
use Rattle.store_deliveries.proofs.awakeable.decoded_in.Goals as goal

pub returns-in_ok-named-in-Ok : goal.returns-in_ok-named-in-Ok
returns-in_ok-named-in-Ok c =
    ok_then named_told (named_in c.in_ok-named-in-Ok.named) _ c.named_in-found.result c.named_in-found.ensures (ap named_in c.in_ok-named-in-Ok.ensures ∙ sym (ap if_decoded c.in-Ok.ensures.ok))

pub returns-in-Err-DecodeError : goal.returns-in-Err-DecodeError
returns-in-Err-DecodeError c = sym (ap if_decoded (rw c.in-Err-DecodeError.field-0-is at c.in-Err-DecodeError.ensures.err))
