use Rattle.shown_records.specs.Entries.{AreShown}
use Rattle.shown_records.proofs.entry.read_entries.Given as goal

abbrev pub invariant-loop-entry : goal.invariant-loop-entry
invariant-loop-entry l = AreShown l.yielded l.shown.items
