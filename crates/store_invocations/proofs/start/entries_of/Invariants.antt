use Rattle.std.proofs.Common.{◌≡◌, map, take}
use Rattle.store_invocations.specs.Start.{state_record}
use Rattle.store_invocations.proofs.start.entries_of.Given as goal

abbrev pub invariant-loop-row : goal.invariant-loop-row
invariant-loop-row l = l.entries ≡ map state_record (take l.row-index l.states)
