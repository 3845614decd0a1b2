use Rattle.journal_store.proofs.Waiting.{input_waits}
use Rattle.journal_store.proofs.attempt.put_wanted.Goals as goal

pub returns-in-Some-clause-waits : goal.returns-in-Some-clause-waits
returns-in-Some-clause-waits c = input_waits c.args.id.now c.args.live.now.attempts c.put_frame.new.self.attempts c.put_frame.ensures.input
