use Rattle.std.proofs.Common.{refl}
use Rattle.protocol_differences.proofs.Behind.{behind}
use Rattle.protocol_differences.proofs.commands.GetLazyStateKeysCommandMessageCommandMessageHeaderDiff.write_diff.Goals as goal

pub returns : goal.returns
returns g c = λ p ok. behind (c.in_ok-write_id.ensures p refl)
    (λ q. c.write_field.ensures q ok)
