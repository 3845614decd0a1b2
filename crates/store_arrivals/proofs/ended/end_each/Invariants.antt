-- What was ended, and what is to be ended of the sleeps that are left, are the ends of all.
use Rattle.std.proofs.Common.{◌≡◌, ◌+◌, ◌++◌, drop, map}
use Rattle.store_tables.specs.declared.row.Write.TheVariants.{AddEntry}
use Rattle.store_arrivals.specs.SleepEnds.{end_rows}
use Rattle.store_arrivals.proofs.ended.end_each.Given as goal

abbrev pub invariant-loop-completion : goal.invariant-loop-completion
invariant-loop-completion l = record {
  next : l.next ≡ l.place + l.completion-index;
  known : l.known ≡ l.before + l.completion-index;
  written : l.writes.items ++ map AddEntry (end_rows l.id l.next l.known (drop l.completion-index l.completions)) ≡ l.initial.writes.items ++ map AddEntry (end_rows l.id l.place l.before l.completions);
}
