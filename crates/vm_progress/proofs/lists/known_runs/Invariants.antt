use Rattle.std.proofs.Common.{◌≡◌, ◌++◌, map}
use Rattle.vm_progress.specs.UncompletedAwaits.{known_run, known_runs}
use Rattle.vm_progress.proofs.lists.known_runs.Given as goal

-- the runs that were told, and those that are left
abbrev pub invariant-loop-run : goal.invariant-loop-run
invariant-loop-run l = l.known.items ++ map known_run l.run-iterator ≡ known_runs l.runs.table
