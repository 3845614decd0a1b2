use Rattle.std.proofs.Common.{arith}
use Rattle.std.proofs.lemmas.Grind.{common_steps}
use Rattle.store_live.specs.Input.{at_begin}
use Rattle.store_live.proofs.attempts.LiveAttempts.put_frame.Goals as goal
use Rattle.store_live.proofs.attempts.LiveAttempts.put_frame.Goals.{in-Some, in-None}

pub returns-clause-input : goal.returns-clause-input
returns-clause-input c = elim c.match-get_mut.branch [
  | in-Some w ↦ (w.put_frame.new.self, grind (arith, common_steps))
  | in-None w ↦ (at_begin 0 0, grind (arith, common_steps))
]
