-- Those that were yielded so far were put behind.
use Rattle.std.proofs.Common.{◌≡◌, ◌++◌}
use Rattle.journal_store.specs.JoinedFrames.{other_writes, row_behind}
use Rattle.journal_store.proofs.joined.put_writes.Given as goal

abbrev pub invariant-loop-write : goal.invariant-loop-write
invariant-loop-write l = record {
  writes : l.writes.items ≡ l.initial.writes.items ++ other_writes l.yielded;
  row : l.row ≡ row_behind l.yielded l.initial.row;
}
