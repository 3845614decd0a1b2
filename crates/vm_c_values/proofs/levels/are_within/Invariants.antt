-- Those that were looked at are.
use Rattle.std.proofs.Common.{◌≡◌, true, take}
use Rattle.std.specs.Prelude.{nat_le}
use Rattle.std.specs.List.{list_all}
use Rattle.vm_c_values.specs.declared.levels.TheConstants.{NODE_LEVELS}
use Rattle.vm_c_values.proofs.levels.are_within.Given as goal

abbrev pub invariant-loop-level : goal.invariant-loop-level
invariant-loop-level l = list_all (λ level. nat_le level NODE_LEVELS) (take l.level-index l.levels) ≡ true
