use Rattle.journal_store.proofs.step.pass_written.Goals as goal

pub returns : goal.returns
returns c = (c.pass_noted.new.live.attempts, c.pass_noted.ensures, c.note_written.ensures)
