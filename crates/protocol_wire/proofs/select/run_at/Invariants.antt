use Rattle.std.proofs.Common.{length}
use Rattle.protocol_wire.specs.ComingFields.{coming}
use Rattle.protocol_wire.specs.Selection.{among, last_run}
use Rattle.protocol_wire.proofs.Runs.{Running, onward}
use Rattle.protocol_wire.proofs.select.run_at.Given as goal

abbrev pub invariant-loop-field : goal.invariant-loop-field
invariant-loop-field l = Running l.variants (onward l.found) (coming l.rest) (last_run (among l.variants (coming l.all)))

abbrev pub decreases-loop-field : goal.decreases-loop-field
decreases-loop-field l = length (coming l.rest)
