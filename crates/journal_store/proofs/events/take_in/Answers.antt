use Rattle.std.proofs.Common.{Some}
use Rattle.journal_store.proofs.Waiting.{noted_now_waits}
use Rattle.journal_store.proofs.events.take_in.Goals as goal

pub returns-clause-put : goal.returns-clause-put
returns-clause-put c = (c.put_begun.new.self.attempts, c.put_begun.ensures, c.note_written.ensures)

pub returns-clause-waits : goal.returns-clause-waits
returns-clause-waits c =
    noted_now_waits c.args.writes.items c.args.id (Some c.args.attempt) c.args.live.now.attempts c.note_written.new.self.attempts (c.put_begun.new.self.attempts, c.put_begun.ensures, c.note_written.ensures)
