use Rattle.std.proofs.Common.{◌≡◌, ◌++◌, map, filter, drop}
use Rattle.store_invocations.specs.JournalContent.{entry_read, is_entry}
use Rattle.store_invocations.proofs.recorded.entries_among.Given as goal

-- what was told, and what is left
abbrev pub invariant-loop-row : goal.invariant-loop-row
invariant-loop-row l = map entry_read (filter is_entry l.rows) ≡ l.entries.items ++ map entry_read (filter is_entry (drop l.row-index l.rows))
