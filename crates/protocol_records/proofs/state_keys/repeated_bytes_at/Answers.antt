use Rattle.std.proofs.Common.{arith}
use Rattle.std.proofs.lemmas.Grind.{common_steps}
use Rattle.protocol_records.proofs.state_keys.repeated_bytes_at.Goals as goal

pub loop-found-preserved-in_ok-push : goal.loop-found-preserved-in_ok-push
loop-found-preserved-in_ok-push c = grind (arith, common_steps)
