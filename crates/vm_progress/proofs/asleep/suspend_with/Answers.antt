use Rattle.vm_progress.proofs.asleep.suspend_with.Goals as goal

pub returns : goal.returns
returns c = record {
  written = c.suspend-written.result;
  active = c.suspend-written.new.active;
  suspends = c.suspend-written.ensures;
  closes = c.close_as.ensures;
}
