-- The nodes that are left stand before those whose levels are on the stack.
use Rattle.std.proofs.Common.{◌≡◌, [], length, reverse}
use Rattle.vm_c_values.specs.Levels.{levels_on}
use Rattle.vm_c_values.proofs.levels.stacked.Given as goal

abbrev pub invariant-loop-split : goal.invariant-loop-split
invariant-loop-split l = levels_on l.rest (reverse l.levels.items) ≡ levels_on l.fn.nodes []

abbrev pub decreases-loop-split : goal.decreases-loop-split
decreases-loop-split l = length l.rest
