use Rattle.std.proofs.Common.{refl}
use Rattle.protocol_differences.proofs.Behind.{behind}
use Rattle.protocol_differences.proofs.commands.SendSignalCommandMessageCommandMessageHeaderDiff.write_diff.Goals as goal

pub returns : goal.returns
returns g c = λ p ok. behind (behind (behind (c.in_ok-write_field.ensures p refl)
    (λ q. c.in_ok-write_field-2.ensures q refl))
    (λ q. c.in_ok-write_field-3.ensures q refl))
    (λ q. c.write_field-4.ensures q ok)
