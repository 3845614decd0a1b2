-- What was taken, and what is left to take.
use Rattle.std.proofs.Common.{reverse}
use Rattle.vm_c_values.proofs.Nesting.{HasTaken}
use Rattle.vm_c_values.proofs.levels.most_taken.Given as goal

abbrev pub invariant-loop-taken : goal.invariant-loop-taken
invariant-loop-taken l = HasTaken l.fn.count (reverse l.fn.levels.items) l._taken l.most (reverse l.levels.items)
