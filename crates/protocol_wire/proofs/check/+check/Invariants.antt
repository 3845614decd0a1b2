use Rattle.std.proofs.Common.{length, ◌≡◌, ◌+◌, ◌*◌, ◌-◌}
use Rattle.protocol_wire.specs.ComingFields.{coming}
use Rattle.protocol_wire.specs.Check.{worse, payload_fault}
use Rattle.protocol_wire.proofs.Faults.{left_fault}
use Rattle.protocol_wire.proofs.check.+check.Given as goal

abbrev pub decreases-fault_in : goal.decreases-fault_in
decreases-fault_in l = 2 * l.levels

abbrev pub decreases-fault_of_field : goal.decreases-fault_of_field
decreases-fault_of_field l = 2 * l.levels + 1

abbrev pub invariant-fault_in-loop-field : goal.invariant-fault_in-loop-field
invariant-fault_in-loop-field l = worse l.fault (left_fault (payload_fault (l.levels - 1)) l.fields l.left) ≡ payload_fault l.levels l.fn.of l.payload

abbrev pub decreases-fault_in-loop-field : goal.decreases-fault_in-loop-field
decreases-fault_in-loop-field l = length (coming l.left)
